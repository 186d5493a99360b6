-- SPDX-License-Identifier: MPL-2.0
-- What a Connect payload says, in words.
use Rattle.std.specs.Prelude.{ℕ, List, [], ◌∷◌, ◌++◌}
use Rattle.payloads.specs.declared.reading.Span.{Span}
use Rattle.payloads.specs.declared.connect.FoundConnect.{FoundConnect}

-- The words of a part: from where, how many bytes.
abbrev pub span_words : Span → List ℕ
span_words s = s.from ∷ s.size ∷ []

-- The words of three parts.
abbrev pub parts_words : (a b c : Span) → List ℕ
parts_words a b c = span_words a ++ span_words b ++ span_words c

-- The words of certificate and thumbprint.
abbrev pub shown_words : (certificate thumbprint : Span) → List ℕ
shown_words certificate thumbprint = span_words certificate ++ span_words thumbprint

-- Type, mode, Result or Status; then the parts: nonce, X, Y, certificate, thumbprint.
abbrev pub connect_words : FoundConnect → List ℕ
connect_words f =
    (f.connect ∷ f.mode ∷ f.code ∷ []) ++ parts_words f.nonce f.x f.y ++ shown_words f.certificate f.thumbprint
