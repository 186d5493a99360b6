-- SPDX-License-Identifier: MPL-2.0
-- Each word is taken apart.
use Rattle.aes.specs.Words.{bytes_of}
use native.Mathlib.Nat.{div-one}
use Rattle.aes.proofs.columns.bytes_of.Goals as goal

pub returns : goal.returns
unfolding bytes_of
returns c =
    rw (
      c.to_le_bytes.ensures,
      c.to_le_bytes-2.ensures,
      c.to_le_bytes-3.ensures,
      c.to_le_bytes-4.ensures,
      div-one c.args.s.a,
      div-one c.args.s.b,
      div-one c.args.s.c,
      div-one c.args.s.d,
    )
