-- Places of words in a memory, the search for a listed address, and Eq with one.
use mathlib.Core.Path.{◌≡◌, ap, sym, ◌∙◌}
use mathlib.Core.List.{List}
use Prim.Native.Nat.{ℕ, suc, ◌+◌, ◌*◌, ◌-◌, ◌^◌, ◌≤◌, ◌<◌}
use native.Mathlib.Omega.{arith}
use native.Mathlib.Decide.{dec_lt}
use native.Mathlib.Nat.{mul-le-mul_right}
use lib.Dec.{eqb}
use lib.ListN.{length, get_or, drop}
use lib.Seq.{get_or-take, get_or-drop}
use borrow.Author.Tests.{eqb-true, eqb-false}
use Rattle.loops.proofs.Loop.{first-true, first_below}
use Rattle.netlist.specs.Net.{Net}
use Rattle.gates.specs.Law.{Ext}
use Rattle.gates.proofs.Laws.{bit-map, ext-weaken}
use Rattle.digits.specs.Digits.{put_digits, Below}
use Rattle.digits.proofs.Numbers.{digit_lt}
use Rattle.digits.proofs.Words.{Put, put-law}
use Rattle.words.specs.Num.{num, blank}
use Rattle.words.specs.Each.{put_bits}
use Rattle.words.proofs.NumLaws.{num-digits, blank-long}
use Rattle.words.proofs.EachLaws as each
use Rattle.words.proofs.EqLaws.{eq-law, eq-left}
use Rattle.memory.specs.Address.{part, listed_at, at_listed, AtLaw, Listed}
use Rattle.table.specs.Sheet.{is_at}

-- bit j of word i
pub part_at : (i w : ℕ) (mem : List ℕ) (j : ℕ) → j < w → get_or (part i w mem) j 0 ≡ get_or mem (i * w + j) 0
part_at i w mem j h = get_or-take w (drop (i * w) mem) j 0 h ∙ get_or-drop (i * w) mem j 0

-- word i ends where word i + 1 begins, within n words
pub word_end : (i n w : ℕ) → i < n → i * w + w ≤ n * w
word_end i n w h = omega (arith, mul-le-mul_right {m = suc i} {n = n} w h)

pub part-below : (b i n w : ℕ) (mem : List ℕ) → i < n → Below b mem (n * w) → Below b (part i w mem) w
part-below b i n w mem l h j k = rw (part_at i w mem j k) (h (i * w + j) (omega (arith, word_end i n w l)))

-- a word put at a place: the places that are not its own, and all bits
module _ (from : ℕ) (bits map : List ℕ) (w : ℕ) (fits : from + w ≤ length map) where
  pub put_other : (p : ℕ) → ((j : ℕ) → j < w → p ≡ from + j → ⊥) → get_or (put_bits from bits w map) p 0 ≡ get_or map p 0
  put_other p h = go (dec_lt p from) (dec_lt p (from + w))
    where
      go : Dec (p < from) → Dec (p < from + w) → get_or (put_bits from bits w map) p 0 ≡ get_or map p 0
      go (yes l) r = (each.put-law from bits map w fits).below p l
      go (no l) (yes r) = absurd (h (p - from) (omega arith) (omega arith))
      go (no l) (no r) = (each.put-law from bits map w fits).above p (omega arith)

  pub put-below : (b m : ℕ) → Below b bits w → Below b map m → Below b (put_bits from bits w map) m
  put-below b m kb ko p l = go (dec_lt p from) (dec_lt p (from + w))
    where
      go : Dec (p < from) → Dec (p < from + w) → get_or (put_bits from bits w map) p 0 < b
      go (yes x) y = rw ((each.put-law from bits map w fits).below p x) (ko p l)
      go (no x) (yes y) =
          let q : from + (p - from) ≡ p = omega arith in
          let v : get_or (put_bits from bits w map) (from + (p - from)) 0 < b = rw ((each.put-law from bits map w fits).there (p - from) (omega arith)) (kb (p - from) (omega arith)) in
          rw q at v
      go (no x) (no y) = rw ((each.put-law from bits map w fits).above p (omega arith)) (ko p l)

-- what the search finds has the address, and where it finds none no place has it
pub found-listed : (n : ℕ) (addrs : List ℕ) (a : ℕ) → listed_at n addrs a < n → get_or addrs (listed_at n addrs a) 0 ≡ a
unfolding is_at
found-listed n addrs a h = eqb-true _ a (first-true (is_at addrs a) n h)

pub none-listed : (n : ℕ) (addrs : List ℕ) (a : ℕ) → n ≤ listed_at n addrs a → (i : ℕ) → i < n → get_or addrs i 0 ≡ a → ⊥
unfolding is_at
none-listed n addrs a h i l = eqb-false (get_or addrs i 0) a (first_below (is_at addrs a) n i (omega arith))

-- a listed address has one place
pub only-listed : (n w : ℕ) (addrs : List ℕ) (a : ℕ) → Listed n w addrs → listed_at n addrs a < n → (i : ℕ) → i < n → get_or addrs i 0 ≡ a → i ≡ listed_at n addrs a
only-listed n w addrs a listed h i l q = listed.distinct i (listed_at n addrs a) l h (q ∙ sym (found-listed n addrs a h))

-- the digits of a listed address are known
module _ (w a : ℕ) (small : w ≤ 64) where
  listed-digits : Put a blank w (put_digits a w blank)
  listed-digits = put-law a w blank (omega (arith, blank-long))

  pub digits-known : Below 2 (put_digits a w blank) w
  digits-known j l = rw (listed-digits.there j l) (digit_lt a j)

-- two gates a place less one
pub at-ext : (w a : ℕ) (adr : List ℕ) (s : Net) → 1 ≤ w → w ≤ 64 → Ext s (at_listed w a adr s).net (2 * w - 1)
unfolding at_listed
at-ext w a adr s big small =
    ext-weaken s _ _ (2 * w - 1) (eq-left (put_digits a w blank) adr w big (digits-known w a small)) (eq-law w (put_digits a w blank) adr s big (omega arith)).ext

pub at-law : (w a : ℕ) (adr : List ℕ) (s : Net) → 1 ≤ w → w ≤ 64 → a < 2 ^ w → AtLaw w a adr s (at_listed w a adr s)
unfolding at_listed
at-law w a adr s big small below =
    bit-map (λ p. (λ i l. omega (arith, digits-known w a small i l, p.0), p.1)) (λ k. (digits-known w a small, k))
    (λ e o. ap (λ (z : ℕ). eqb z (num e adr w)) (num-digits s e (put_digits a w blank) w a o below (listed-digits w a small).there (digit_lt a)))
    (eq-left (put_digits a w blank) adr w big (digits-known w a small))
    (eq-law w (put_digits a w blank) adr s big (omega arith))
