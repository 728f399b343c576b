-- The law of a word over copies of one bit: both extensions, and the sides of a less-than.
use mathlib.Core.Path.{◌≡◌, ◌∙◌}
use mathlib.Core.List.{List}
use mathlib.Core.Bool.{Bool, true, false}
use Prim.Native.Nat.{ℕ, zero, suc, ◌+◌, ◌*◌, ◌-◌, ◌^◌, ◌≤◌, ◌<◌}
use native.Mathlib.Omega.{arith}
use native.Mathlib.Decide.{dec_lt}
use native.Mathlib.Nat.{pow-suc, zero-add, add-zero, add-suc}
use lib.ListN.{get_or, get_or-replicate}
use Rattle.loops.specs.Loop.{bit}
use Rattle.netlist.specs.Net.{Assign}
use Rattle.digits.specs.Digits.{Below}
use Rattle.words.specs.Num.{num, filled}
use Rattle.words.specs.Each.{Put}
use Rattle.words.specs.Extend.{extended, ExtendLaw}
use Rattle.words.proofs.NumLaws.{num-suc, num-same, filled-long}
use Rattle.words.proofs.EachLaws.{put-law}

filled_at : (b j : ℕ) → j < 65 → get_or (filled b) j 0 ≡ b
unfolding filled
filled_at b j l = get_or-replicate 65 j b 0 l

module _ (b v : ℕ) (bits : List ℕ) (small : v ≤ 65) where
  p : Put 0 bits (filled b) v (extended b v bits)
  p = put-law 0 bits (filled b) v (omega (arith, filled-long b))

  there : (j : ℕ) → j < v → get_or (extended b v bits) j 0 ≡ get_or bits j 0
  there j l = rw (zero-add j) at (p.there j l)

  above : (j : ℕ) → v ≤ j → j < 65 → get_or (extended b v bits) j 0 ≡ b
  above j h l = p.above j (omega arith) ∙ filled_at b j l

  -- one place more
  more : (x y n m : ℕ) (c : Bool) → x + n * bit c ≡ y + m * bit c → x + m * bit c + n * bit c ≡ y + m * 2 * bit c
  more x y n m true h = omega arith
  more x y n m false h = omega arith

  value : (e : Assign) (k : ℕ) → v + k ≤ 65 → num e (extended b v bits) (v + k) + 2 ^ v * bit (e b) ≡ num e bits v + 2 ^ (v + k) * bit (e b)
  value e zero h = rw (add-zero, num-same e (extended b v bits) bits v there)
  value e (suc k) h =
      rw (add-suc, num-suc e (extended b v bits) (v + k), above (v + k) (omega arith) (omega arith), pow-suc 2 (v + k))
      (more (num e (extended b v bits) (v + k)) (num e bits v) (2 ^ v) (2 ^ (v + k)) (e b) (value e k (omega arith)))

  pub extend-law : ExtendLaw b v bits (extended b v bits)
  extend-law =
      record {
        long = p.long ∙ filled-long b;
        there = there;
        above = above;
        value = λ e w h l. let r : v + (w - v) ≡ w = omega arith in rw r at (value e (w - v) (omega arith));
        under = λ n w l lt h j s. one n lt h j (omega arith) (dec_lt j v);
      }
    where
      one : (n : ℕ) → b < n → Below n bits v → (j : ℕ) → j < 65 → Dec (j < v) → get_or (extended b v bits) j 0 < n
      one n lt h j l (yes s) = rw (there j s) (h j s)
      one n lt h j l (no s) = rw (above j (omega arith) l) lt

  -- over a bit that is false the number is the word's own
  pub clear-num : (e : Assign) (w : ℕ) → v ≤ w → w ≤ 65 → e b ≡ false → num e (extended b v bits) w ≡ num e bits v
  clear-num e w h l z = let q = rw z at (extend-law.value e w h l) in omega (arith, q)
