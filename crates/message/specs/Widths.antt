-- SPDX-License-Identifier: MPL-2.0
-- The widths of a header's fields, as document 01's table of the wire gives them.
use Rattle.std.specs.Prelude.{◌<◌}
use Rattle.wire.specs.declared.header.Header.{Header}

-- Every field is a number of its width.
pub record InWidth (h : Header) : Type 0 where
  pub kind : h.kind < 256
  pub flags : h.flags < 65536
  pub sequence : h.sequence < 4294967296
  pub request : h.request < 18446744073709551616
  pub index : h.index < 65536
  pub count : h.count < 65536
  pub session : h.session < 18446744073709551616
  pub channel : h.channel < 18446744073709551616
