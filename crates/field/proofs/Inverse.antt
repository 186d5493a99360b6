-- SPDX-License-Identifier: MPL-2.0
-- A byte to the power of 254 is its inverse, and the only one. A list of the inverses is the witness: that each is one is a test of 256 products,
-- where the powers would take thirteen each. The rest is algebra: to square keeps sums, and eight squares change nothing, so that b to the power of
-- 256 is b.
use Rattle.laws.proofs.Kit.{ℕ, zero, suc, min, ◌^◌, ◌<◌, ◌≡◌, refl, sym, ◌∙◌, ap, List, [], ◌∷◌, get_or, lit<, arith}
use Rattle.laws.proofs.Below.{agree, bounded}
use Rattle.field.specs.Xor.{xor}
use Rattle.field.specs.Field.{xtime, times, mul, square, ones, inverse}
use Rattle.field.proofs.Xor.{byte, assoc, cancel}
use Rattle.field.proofs.Linear.{mul-byte, mul-xor, xor-mul}
use Rattle.field.proofs.Additive.{Additive, additive-same}
use Rattle.field.proofs.Product.{one-times, times-comm, times-assoc}

-- ---- the witness

-- the inverses of 0 to 255, sixteen to a line; that of 0 is 0
unfoldable pub inverses : List ℕ
inverses =
    0 ∷ 1 ∷ 141 ∷ 246 ∷ 203 ∷ 82 ∷ 123 ∷ 209 ∷ 232 ∷ 79 ∷ 41 ∷ 192 ∷ 176 ∷ 225 ∷ 229 ∷ 199 ∷
    116 ∷ 180 ∷ 170 ∷ 75 ∷ 153 ∷ 43 ∷ 96 ∷ 95 ∷ 88 ∷ 63 ∷ 253 ∷ 204 ∷ 255 ∷ 64 ∷ 238 ∷ 178 ∷
    58 ∷ 110 ∷ 90 ∷ 241 ∷ 85 ∷ 77 ∷ 168 ∷ 201 ∷ 193 ∷ 10 ∷ 152 ∷ 21 ∷ 48 ∷ 68 ∷ 162 ∷ 194 ∷
    44 ∷ 69 ∷ 146 ∷ 108 ∷ 243 ∷ 57 ∷ 102 ∷ 66 ∷ 242 ∷ 53 ∷ 32 ∷ 111 ∷ 119 ∷ 187 ∷ 89 ∷ 25 ∷
    29 ∷ 254 ∷ 55 ∷ 103 ∷ 45 ∷ 49 ∷ 245 ∷ 105 ∷ 167 ∷ 100 ∷ 171 ∷ 19 ∷ 84 ∷ 37 ∷ 233 ∷ 9 ∷
    237 ∷ 92 ∷ 5 ∷ 202 ∷ 76 ∷ 36 ∷ 135 ∷ 191 ∷ 24 ∷ 62 ∷ 34 ∷ 240 ∷ 81 ∷ 236 ∷ 97 ∷ 23 ∷
    22 ∷ 94 ∷ 175 ∷ 211 ∷ 73 ∷ 166 ∷ 54 ∷ 67 ∷ 244 ∷ 71 ∷ 145 ∷ 223 ∷ 51 ∷ 147 ∷ 33 ∷ 59 ∷
    121 ∷ 183 ∷ 151 ∷ 133 ∷ 16 ∷ 181 ∷ 186 ∷ 60 ∷ 182 ∷ 112 ∷ 208 ∷ 6 ∷ 161 ∷ 250 ∷ 129 ∷ 130 ∷
    131 ∷ 126 ∷ 127 ∷ 128 ∷ 150 ∷ 115 ∷ 190 ∷ 86 ∷ 155 ∷ 158 ∷ 149 ∷ 217 ∷ 247 ∷ 2 ∷ 185 ∷ 164 ∷
    222 ∷ 106 ∷ 50 ∷ 109 ∷ 216 ∷ 138 ∷ 132 ∷ 114 ∷ 42 ∷ 20 ∷ 159 ∷ 136 ∷ 249 ∷ 220 ∷ 137 ∷ 154 ∷
    251 ∷ 124 ∷ 46 ∷ 195 ∷ 143 ∷ 184 ∷ 101 ∷ 72 ∷ 38 ∷ 200 ∷ 18 ∷ 74 ∷ 206 ∷ 231 ∷ 210 ∷ 98 ∷
    12 ∷ 224 ∷ 31 ∷ 239 ∷ 17 ∷ 117 ∷ 120 ∷ 113 ∷ 165 ∷ 142 ∷ 118 ∷ 61 ∷ 189 ∷ 188 ∷ 134 ∷ 87 ∷
    11 ∷ 40 ∷ 47 ∷ 163 ∷ 218 ∷ 212 ∷ 228 ∷ 15 ∷ 169 ∷ 39 ∷ 83 ∷ 4 ∷ 27 ∷ 252 ∷ 172 ∷ 230 ∷
    122 ∷ 7 ∷ 174 ∷ 99 ∷ 197 ∷ 219 ∷ 226 ∷ 234 ∷ 148 ∷ 139 ∷ 196 ∷ 213 ∷ 157 ∷ 248 ∷ 144 ∷ 107 ∷
    177 ∷ 13 ∷ 214 ∷ 235 ∷ 198 ∷ 14 ∷ 207 ∷ 173 ∷ 8 ∷ 78 ∷ 215 ∷ 227 ∷ 93 ∷ 80 ∷ 30 ∷ 179 ∷
    91 ∷ 35 ∷ 56 ∷ 52 ∷ 104 ∷ 70 ∷ 3 ∷ 140 ∷ 221 ∷ 156 ∷ 125 ∷ 160 ∷ 205 ∷ 26 ∷ 65 ∷ 28 ∷ []

module _ (b : ℕ) (h : b < 256) where
  abbrev found : ℕ
  found = get_or inverses b 0

  found-byte : found < 256
  unfolding inverses
  found-byte = bounded (λ b. get_or inverses b 0) 256 256 refl b h

  -- the one test over all bytes
  found-inverts : 0 < b → mul b found ≡ 1
  unfolding inverses mul times xtime xor
  found-inverts g = agree (λ b. mul b (get_or inverses b 0)) (λ b. min b 1) 256 refl b h ∙ omega arith

-- ---- a byte has one inverse

pub one-inverse : (b y z : ℕ) → b < 256 → y < 256 → z < 256 → mul b y ≡ 1 → mul b z ≡ 1 → y ≡ z
one-inverse b y z hb hy hz ey ez =
    sym (one-times y hy) ∙ rw (← ez, times-comm b z hb hz, times-assoc z b y hz hb hy, ey, times-comm z 1 hz (lit< tt), one-times z hz)

-- ---- squares

square-byte : (b : ℕ) → b < 256 → square b < 256
unfolding square
square-byte b h = mul-byte b b h

-- of a product and of a sum
square-mul : (a b : ℕ) → a < 256 → b < 256 → square (mul a b) ≡ mul (square a) (square b)
unfolding square
square-mul a b ha hb =
    let hp : mul a b < 256 = mul-byte a b hb in
    let hq : mul b b < 256 = mul-byte b b hb in
    rw (
      times-assoc a b (mul a b) ha hb hp,
      ← times-assoc b a b hb ha hb,
      times-comm b a hb ha,
      times-assoc a b b ha hb hb,
      ← times-assoc a a (mul b b) ha ha hq,
    )

square-sum : (a b : ℕ) → a < 256 → b < 256 → square (xor a b) ≡ xor (square a) (square b)
unfolding square
square-sum a b ha hb =
    rw (
      xor-mul a b (xor a b) (byte a b ha hb),
      mul-xor a a b ha hb,
      mul-xor b a b ha hb,
      times-comm b a hb ha,
      ← assoc (xor (mul a a) (mul a b)),
      cancel (mul a a) (mul a b),
    )

-- n squares one after the other
squares : ℕ → ℕ → ℕ
squares zero b = b
squares (suc n) b = square (squares n b)

squares-byte : (n b : ℕ) → b < 256 → squares n b < 256
unfolding squares
squares-byte zero b h = h
squares-byte (suc n) b h = square-byte _ (squares-byte n b h)

squares-sum : (n : ℕ) → Additive (squares n)
unfolding squares
squares-sum zero = record { sum = λ a b ha hb. refl }
squares-sum (suc n) =
    record { sum = λ a b ha hb. ap square ((squares-sum n).sum a b ha hb) ∙ square-sum _ _ (squares-byte n a ha) (squares-byte n b hb) }

eight-squares : (b : ℕ) → b < 256 → squares 8 b ≡ b
unfolding squares square mul times xtime xor
eight-squares =
    additive-same (squares 8) (λ b. b) (squares-sum 8) (record { sum = λ a b ha hb. refl }) (agree (λ j. squares 8 (2 ^ j)) (λ j. 2 ^ j) 8 refl)

-- ---- the power of 254

ones-byte : (n b : ℕ) → b < 256 → ones n b < 256
unfolding ones
ones-byte zero b h = h
ones-byte (suc n) b h = mul-byte b _ (square-byte _ (ones-byte n b h))

pub inverse-byte : (b : ℕ) → b < 256 → inverse b < 256
unfolding inverse
inverse-byte b h = square-byte _ (ones-byte 6 b h)

-- the power of 2^(n + 1) - 1, once more by b, is n + 1 squares
ones-more : (n b : ℕ) → b < 256 → mul b (ones n b) ≡ squares (suc n) b
unfolding ones squares square
ones-more zero b h = refl
ones-more (suc n) b h =
    let o : ℕ = ones n b in
    let ho : o < 256 = ones-byte n b h in
    sym (times-assoc b b (square o) h h (square-byte o ho)) ∙ sym (square-mul b o h ho) ∙ ap square (ones-more n b h)

pub inverts : (b : ℕ) → b < 256 → 0 < b → mul b (inverse b) ≡ 1
unfolding inverse ones
inverts b h g =
    let i : ℕ = found b h in
    let hi : i < 256 = found-byte b h in
    let p : ℕ = ones 7 b in
    let hp : p < 256 = ones-byte 7 b h in
    let one : mul i b ≡ 1 = times-comm i b hi h ∙ found-inverts b h g in
    sym (one-times p hp) ∙ rw (← one, times-assoc i b p hi h hp, ones-more 7 b h, eight-squares b h, one)

pub inverse-zero : inverse 0 ≡ 0
unfolding inverse square ones mul times xtime xor
inverse-zero = refl

-- each inverse is that of the list
pub inverse-at : (b : ℕ) → b < 256 → get_or inverses b 0 ≡ inverse b
unfolding inverses
inverse-at zero h = sym inverse-zero
inverse-at (suc k) h =
    let g : 0 < suc k = omega arith in
    one-inverse (suc k) _ _ h (found-byte (suc k) h) (inverse-byte (suc k) h) (found-inverts (suc k) h g) (inverts (suc k) h g)
