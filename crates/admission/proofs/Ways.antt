-- SPDX-License-Identifier: MPL-2.0
-- A property of what a message is admitted as, and of the working buffer, by the way that it went.
use Rattle.laws.proofs.Kit.{ℕ, ◌≡◌, refl, true, false, List, length, ltb}
use Rattle.laws.proofs.Cases.{on}
use Rattle.message.specs.Reading.{read_message, working_after}
use Rattle.message.specs.declared.reading.FoundMessage.{FoundMessage}
use Rattle.std.specs.Prelude.{Result, Ok, Err}
use Rattle.joining.specs.Cut.{bad_size}
use Rattle.admission.specs.Admission.{admit, working_admitted}

module _ (size v : ℕ) (m k w : List ℕ) (G : List ℕ → Result FoundMessage ℕ → Type 0) where
  -- 25 applies; 24 applies; what was read.
  pub admit-tests : (ltb 1 v ≡ true → G w (Err 25)) → (ltb 1 v ≡ false → bad_size size ≡ true → G w (Err 24))
      → (ltb 1 v ≡ false → bad_size size ≡ false → G (working_after m k w) (read_message m k (length w)))
      → G (working_admitted size v m k w) (admit size v m k (length w))
  unfolding admit working_admitted
  admit-tests verdict sized read =
      on (ltb 1 v) (λ t. rw t (verdict t)) (λ t. on (bad_size size) (λ z. rw (t, z) (sized t z)) (λ z. rw (t, z) (read t z)))

  -- It is enough that refusals have it and what was read.
  pub admit-cases : ((w' : List ℕ) (n : ℕ) → G w' (Err n))
      → (bad_size size ≡ false → (f : FoundMessage) → read_message m k (length w) ≡ Ok f → G (working_after m k w) (Ok f))
      → G (working_admitted size v m k w) (admit size v m k (length w))
  admit-cases refused read = admit-tests (λ t. refused w 25) (λ t z. refused w 24) (λ t z. by z (read_message m k (length w)) refl)
    where
      by : bad_size size ≡ false → (r : Result FoundMessage ℕ) → read_message m k (length w) ≡ r → G (working_after m k w) r
      by z (Err n) e = refused (working_after m k w) n
      by z (Ok f) e = read z f e
