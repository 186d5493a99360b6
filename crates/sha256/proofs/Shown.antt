-- SPDX-License-Identifier: MPL-2.0
-- The worked examples, by computing.
use Rattle.laws.proofs.Kit.{refl}
use Rattle.laws.specs.Bytes.{bytes_at}
use Rattle.compression.specs.Words.{plus, complement, SHR, ROTR, Ch, Maj, Σ0, Σ1, σ0, σ1}
use Rattle.compression.specs.Constants.{K256}
use Rattle.compression.specs.Compression.{mixed, next_word, schedule, T1, T2, round, rounds, added, compress}
use Rattle.sha256.specs.Digests.{padding, H0, words, after_block, blocks, hashed, bytes_of, digest}
use Rattle.sha256.specs.Macs.{filled, key_block, masked, hmac}
use Rattle.sha256.specs.Examples.{Examples, abc, two_blocks, jefe, nothing}

pub examples : Examples
unfolding plus complement SHR ROTR Ch Maj Σ0 Σ1 σ0 σ1 K256 H0 bytes_at words after_block mixed next_word schedule T1 T2 round rounds added compress blocks hashed padding bytes_of digest filled key_block masked hmac abc two_blocks jefe nothing
examples =
    record {
      abc-padding = refl;
      last-of-one = refl;
      first-of-two = refl;
      million = refl;
      abc-digest = refl;
      two-blocks-digest = refl;
      jefe-hmac = refl;
    }
