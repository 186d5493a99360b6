-- SPDX-License-Identifier: MPL-2.0
-- A report whose pieces come one after the other, each of F bytes of a source, from the first on.
use Rattle.std.specs.Prelude.{ℕ, zero, suc, ◌*◌, List, Bool, cond, ◌||◌, ltb}
use Rattle.joining.specs.declared.Progress.{Progress}
use Rattle.joining.specs.declared.Piece.{Piece}
use Rattle.joining.specs.declared.Arrival.{Arrival}
use Rattle.joining.specs.declared.Arrival.TheVariants.{Refused, Taken, Repeat, Complete}
use Rattle.joining.specs.Join.{expecting, join, report_after}
use Rattle.laws.specs.Parts.{part}

-- What the header of piece i says, in a report of number 0 on channel 0.
abbrev pub piece_of : ℕ → ℕ → Piece
piece_of count i = record { sequence = 0; channel = 0; count = count; index = i }

-- The report's length where it is complete, else 0.
abbrev pub length_told : Arrival → ℕ
length_told (Refused n) = 0
length_told (Taken k) = 0
length_told (Repeat k) = 0
length_told (Complete length k) = length

-- What is remembered, what the report buffer holds, and the length that the last answer reported.
pub record Course : Type 0 where
  pub progress : Progress
  pub report : List ℕ
  pub told : ℕ

-- A piece more.
abbrev pub after : ℕ → Piece → List ℕ → Course → Course
after F piece bytes c =
    record {
      progress = (join F c.progress piece bytes c.report).progress;
      report = report_after F c.progress piece bytes c.report;
      told = length_told (join F c.progress piece bytes c.report).answer;
    }

-- The first n pieces.
unfoldable pub course : (F count : ℕ) → (source report : List ℕ) → ℕ → Course
course F count source report zero = record { progress = expecting 0; report = report; told = 0 }
course F count source report (suc n) = after F (piece_of count n) (part source (F * n) F) (course F count source report n)

-- No report has such pieces: they are over 16,384 bytes, or more than 64.
abbrev pub not_one : ℕ → ℕ → Bool
not_one F count = ltb 16384 F || ltb 64 count

-- Nothing comes of what no report has.
abbrev pub joined_all : ℕ → ℕ → List ℕ → List ℕ → Course
joined_all F count source report = course F count source report (cond (not_one F count) 0 count)
