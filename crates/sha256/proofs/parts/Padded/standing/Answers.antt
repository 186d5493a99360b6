-- SPDX-License-Identifier: MPL-2.0
-- Each of the two parts with what stands before and after it is the message.
use Rattle.laws.proofs.Kit.{ℕ, ◌≡◌, sym, List, [], ◌++◌, append-nil, append_assoc, length, length-append, arith}
use denote.Ref.{Bor}
use Rattle.std.proofs.lemmas.Option.{IfSome_then}
use Rattle.laws.specs.Bytes.{bytes_at}
use Rattle.sha256.specs.Parts.{joined}
use Rattle.sha256.proofs.parts.Padded.standing.Goals as goal

pub returns-in-Some : goal.returns-in-Some
returns-in-Some c =
    let m = c.args.self.now.message in
    simp append_assoc (simp append_assoc at (c.in-Some.ensures (m.first.now ++ m.second.now) c.args.self.now.padding.now (simp length-append (omega arith))))

pub returns-in-None : goal.returns-in-None
returns-in-None c =
    let m = joined c.args.self.now.message in
    let p = c.args.self.now.padding.now in
    IfSome_then _ {P = λ (block : Bor (List ℕ)). (before after : List ℕ) → length before ≡ _ → block.now ≡ bytes_at (before ++ (p ++ after)) c.args.at 64}
    c.inside-in-None.ensures λ block stands. simp append-nil at (stands m [] (sym c.len.ensures))
