-- SPDX-License-Identifier: MPL-2.0
-- The last sixteen words of the schedule, in a ring: W_t stands at place t mod 16. Rounds are done a turn of sixteen at a time.
use Rattle.std.specs.Prelude.{ℕ, zero, suc, ◌+◌, ◌%◌, List, slice_index, slice_set}
use Rattle.compression.specs.declared.Vars.{Vars}
use Rattle.compression.specs.Constants.{K256}
use Rattle.compression.specs.Compression.{mixed, round}

-- W_t over W_(t-16), at i = t mod 16: σ1(W_(t-2)) + W_(t-7) + σ0(W_(t-15)) + W_(t-16).
unfoldable pub put_word : List ℕ → ℕ → List ℕ
put_word w i = slice_set w i (mixed (slice_index w ((i + 14) % 16)) (slice_index w ((i + 9) % 16)) (slice_index w ((i + 1) % 16)) (slice_index w i))

-- The ring of a block m after n words more than the block has: W_n to W_(15+n).
unfoldable pub ring : List ℕ → ℕ → List ℕ
ring m zero = m
ring m (suc n) = put_word (ring m n) (n % 16)

-- n rounds from round t on, where w has the words from W_t on.
unfoldable pub turn : Vars → List ℕ → ℕ → ℕ → Vars
turn v w t zero = v
turn v w t (suc n) = round (turn v w t n) (slice_index K256 (t + n)) (slice_index w n)
