-- SPDX-License-Identifier: MPL-2.0
-- A message that has a digest is hashed with its padding; another gives zeros.
use Rattle.sha256.specs.Parts.{joined}
use Rattle.sha256.proofs.Digesting.{digest_by, digest_none}
use Rattle.sha256.proofs.message.Message.finish.Goals as goal

pub returns-in_default : goal.returns-in_default
returns-in_default c front l after = digest_none front (joined c.args.self.now) _ l c.in_default.ensures

pub returns : goal.returns
returns c front l after =
    let t = c.in-Some.ensures in
    rw (c.bytes_of.ensures, c.hash.ensures, c.put_padding-padding.ensures.0) (digest_by front (joined c.args.self.now) _ l c.args.v _ t.0 t.1 after)
