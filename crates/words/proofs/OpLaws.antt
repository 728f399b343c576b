-- The law of every plain operation, from the laws of the words that it makes.
use mathlib.Core.Path.{◌≡◌, refl, ap, ap₂, sym, ◌∙◌}
use mathlib.Core.List.{List}
use mathlib.Core.Bool.{Bool, true, false, not, ◌&&◌, ◌||◌}
use Prim.Native.Nat.{ℕ, zero, suc, ◌+◌, ◌-◌, ◌*◌, ◌/◌, ◌%◌, ◌^◌, ◌≤◌, ◌<◌}
use native.Mathlib.Omega.{arith}
use native.Mathlib.Nat.{mod-eq_of_lt}
use lib.Bits.{bit_and, bit_or, and_shr, and_mod, and_lt, or_shr, or_mod, or_lt}
use lib.Dec.{eqb, ltb}
use lib.ListN.{get_or, set}
use lib.Seq.{get_or-set_same}
use Rattle.loops.specs.Loop.{pick, bit}
use Rattle.netlist.specs.Net.{Net, Assign}
use Rattle.gates.specs.Made.{MadeBit}
use Rattle.gates.specs.Law.{Formed, BitLaw}
use Rattle.gates.proofs.Laws.{ext-weaken}
use Rattle.digits.specs.Digits.{digit, Below}
use Rattle.digits.specs.Op.{not_word, add_word, sub_word, mul_word, sll_word, srl_word, Op, op_not, op_and, op_or, op_eq, op_add, op_sub, op_ult, op_mul, op_sll, op_srl, op_two, op_one, op_value, shift_gates, op_gates}
use Rattle.digits.proofs.Numbers.{digit_lt}
use Rattle.words.specs.declared.each.Bitwise.{Bitwise}
use Rattle.words.specs.declared.each.Bitwise.TheVariants.{Not, And, Or}
use Rattle.words.specs.declared.shift.Direction.{Direction}
use Rattle.words.specs.declared.shift.Direction.TheVariants.{Left, Right}
use Rattle.words.specs.Num.{num, blank}
use Rattle.words.specs.Each.{bit_value, bit_below, each_bit, each_cost, EachLaw}
use Rattle.words.specs.Add.{add_cost}
use Rattle.words.specs.Sub.{sub_cost}
use Rattle.words.specs.Mul.{mul_cost}
use Rattle.words.specs.Shift.{shift_words, shift_cost, shifted}
use Rattle.words.specs.Op.{fresh, in_front, op_into, op_word, WordLaw, OpLaw}
use Rattle.words.proofs.NumLaws.{num-lt, num-suc, num-none, num-not, right-num, num-right, blank-long}
use Rattle.words.proofs.EachLaws.{each-law, nots-cost, ands-cost, ors-cost}
use Rattle.words.proofs.AddLaws.{add-law, add-value, cost-three}
use Rattle.words.proofs.SubLaws.{sub-law, sub-four, sub-value, ult-law}
use Rattle.words.proofs.EqLaws.{eq-law, eq-three}
use Rattle.words.proofs.MulLaws.{mul-law}
use Rattle.words.proofs.ShiftLaws.{shift-law}

-- the number of one bit
pub num-one : (e : Assign) (bs : List ℕ) → num e bs 1 ≡ bit (e (get_or bs 0 0))
num-one e bs = let n : num e bs 1 ≡ num e bs 0 + 2 ^ 0 * bit (e (get_or bs 0 0)) = num-suc e bs 0 in omega (arith, num-none e bs)

num-bit : (e : Assign) (b : ℕ) → num e (set blank 0 b) 1 ≡ bit (e b)
num-bit e b = num-one e (set blank 0 b) ∙ ap (λ (c : ℕ). bit (e c)) (get_or-set_same blank 0 b 0 (omega (arith, blank-long)))

not-says : (e : Assign) (out A : List ℕ) (w : ℕ) → ((i : ℕ) → i < w → e (get_or out i 0) ≡ not (e (get_or A i 0))) → num e out w ≡ not_word w (num e A w)
unfolding not_word
not-says e out A w h = rw (mod-eq_of_lt (num-lt e A w)) (omega (arith, num-not e out A w h))

-- And and Or are the numbers' And and Or, digit by digit
and_below : (p q : ℕ) → p < 2 → q < 2 → (eqb p 1 && eqb q 1) ≡ eqb (bit_and p q) 1
and_below zero zero h g = refl
and_below zero (suc zero) h g = refl
and_below (suc zero) zero h g = refl
and_below (suc zero) (suc zero) h g = refl
and_below (suc (suc p)) q h g = absurd (omega arith)
and_below zero (suc (suc q)) h g = absurd (omega arith)
and_below (suc zero) (suc (suc q)) h g = absurd (omega arith)

or-below : (p q : ℕ) → p < 2 → q < 2 → (eqb p 1 || eqb q 1) ≡ eqb (bit_or p q) 1
or-below zero zero h g = refl
or-below zero (suc zero) h g = refl
or-below (suc zero) zero h g = refl
or-below (suc zero) (suc zero) h g = refl
or-below (suc (suc p)) q h g = absurd (omega arith)
or-below zero (suc (suc q)) h g = absurd (omega arith)
or-below (suc zero) (suc (suc q)) h g = absurd (omega arith)

-- what a number operation f owes to be g at each digit
record Digitwise (g : Bool → Bool → Bool) (f : ℕ → ℕ → ℕ) : Type 0 where
  below : (p q : ℕ) → p < 2 → q < 2 → g (eqb p 1) (eqb q 1) ≡ eqb (f p q) 1
  shr : (p q j : ℕ) → f p q / 2 ^ j ≡ f (p / 2 ^ j) (q / 2 ^ j)
  rest : (p q j : ℕ) → f p q % 2 ^ j ≡ f (p % 2 ^ j) (q % 2 ^ j)
  less : (j p q : ℕ) → p < 2 ^ j → q < 2 ^ j → f p q < 2 ^ j

and-digits : Digitwise ◌&&◌ bit_and
and-digits = record { below = and_below; shr = and_shr; rest = and_mod; less = and_lt }

or_digits : Digitwise ◌||◌ bit_or
or_digits = record { below = or-below; shr = or_shr; rest = or_mod; less = or_lt }

module _ {g : Bool → Bool → Bool} {f : ℕ → ℕ → ℕ} (law : Digitwise g f) where
  each-digit : (p q j : ℕ) → g (eqb (digit p j) 1) (eqb (digit q j) 1) ≡ eqb (digit (f p q) j) 1
  unfolding digit
  each-digit p q j =
      let a : f p q / 2 ^ j % 2 ≡ f (p / 2 ^ j % 2) (q / 2 ^ j % 2) = ap (λ n. n % 2) (law.shr p q j) ∙ law.rest (p / 2 ^ j) (q / 2 ^ j) 1 in
      law.below (p / 2 ^ j % 2) (q / 2 ^ j % 2) (digit_lt p j) (digit_lt q j) ∙ ap (λ n. eqb n 1) (sym a)

  digits-say : (e : Assign) (out A B : List ℕ) (w : ℕ) → ((i : ℕ) → i < w → e (get_or out i 0) ≡ g (e (get_or A i 0)) (e (get_or B i 0))) → num e out w ≡ f (num e A w) (num e B w)
  digits-say e out A B w h =
      right-num e out w (f (num e A w) (num e B w)) (law.less w (num e A w) (num e B w) (num-lt e A w) (num-lt e B w))
      (λ j l. h j l
      ∙ (ap₂ g (num-right e A w (num e A w) (num-lt e A w) refl j l) (num-right e B w (num e B w) (num-lt e B w) refl j l)
      ∙ each-digit (num e A w) (num e B w) j))

sub_same : (w p q : ℕ) → q < 2 ^ w → (p + 2 ^ w - q) % 2 ^ w ≡ sub_word w p q
unfolding sub_word
sub_same w p q h = let a : p + 2 ^ w - q ≡ p + (2 ^ w - q) = omega arith in rw (mod-eq_of_lt h, a)

module _ (v : ℕ) (A B : List ℕ) (s : Net) (big : 1 ≤ v) (small : v ≤ 64) where
  -- bit by bit, with one gate a bit
  each_word_lem : (two : Bool) (op : Bitwise) (C : List ℕ) (f : ℕ → ℕ → ℕ)
      → ((n : ℕ) → Below n A v → (two ≡ true → Below n B v) → (i : ℕ) → i < v → bit_below op n (get_or A i 0) (get_or C i 0)) → each_cost op A C v ≤ 1 * v
      → ((e : Assign) (out : List ℕ) → ((i : ℕ) → i < v → e (get_or out i 0) ≡ bit_value op e (get_or A i 0) (get_or C i 0)) → num e out v ≡ f (num e A v) (num e B v))
      → WordLaw v A B s two v v f (each_bit op A C v (fresh s))
  each_word_lem two op C f under most says =
      let h : EachLaw op A C (fresh s) v (each_bit op A C v (fresh s)) = each-law op A C (fresh s) v (omega (arith, blank-long)) in
      record {
        ext = ext-weaken s _ (each_cost op A C v) v (omega arith) h.ext;
        value = λ e o. says e (each_bit op A C v (fresh s)).out (h.value e o);
        formed = λ rm a b f. h.formed rm (under s.n a b) f;
        known = λ a b. (h.known (under 2 a b), λ i l. h.known_at i l (under 2 a b i l));
      }

  -- one bit of two words
  bit_word : (f : ℕ → ℕ → Bool) {j c : ℕ} {m : MadeBit} → j ≤ c
      → BitLaw s (Below s.n A v × Below s.n B v) (Below 2 A v × Below 2 B v) (λ e. f (num e A v) (num e B v)) j m
      → WordLaw v A B s true 1 c (λ p q. bit (f p q)) (in_front blank m)
  bit_word f {j} {c} {m} le h =
      record {
        ext = ext-weaken s m.net j c le h.ext;
        value = λ e o. num-bit e m.bit ∙ ap bit (h.value e o);
        formed = λ rm a b f. let q : Formed m.net × (m.bit < m.net.n) = h.formed rm (a, b refl) f in (q.0, only m.net.n q.1);
        known = λ a b. let q : (m.net ≡ s) × (m.bit < 2) = h.known (a, b refl) in (q.0, only 2 q.1);
      }
    where
      only : (b : ℕ) → m.bit < b → Below b (set blank 0 m.bit) 1
      only b h i l = let e : i ≡ 0 = omega arith in rw (e, get_or-set_same blank 0 m.bit 0 (omega (arith, blank-long))) h

  shift_word : (to : Direction) → WordLaw v A B s true v (shift_cost v) (λ p q. pick (ltb q v) (shifted to v q p) 0) (shift_words to v A B (fresh s))
  shift_word to =
      let h = shift-law to v A B (fresh s) big small (omega (arith, blank-long)) in
      record { ext = h.ext; value = h.value; formed = λ rm a b f. h.formed rm a (b refl) f; known = λ a b. h.known a (b refl) }

  pub op-law : (o : Op) → OpLaw o v A B s (op_word o v A B s)
  unfolding op_two op_one op_value op_gates op_into pick bit_below bit_value add_word mul_word sll_word srl_word shifted shift_gates
  op-law op_not = each_word_lem false Not A (λ p q. not_word v p) (λ n a b i l. a i l) (nots-cost A v) (λ e out h. not-says e out A v h)
  op-law op_and = each_word_lem true And B bit_and (λ n a b i l. (a i l, b refl i l)) (ands-cost A B v) (λ e out h. digits-say and-digits e out A B v h)
  op-law op_or = each_word_lem true Or B bit_or (λ n a b i l. (a i l, b refl i l)) (ors-cost A B v) (λ e out h. digits-say or_digits e out A B v h)
  op-law op_eq = bit_word eqb (eq-three A B v big) (eq-law v A B s big (omega arith))
  op-law op_ult = bit_word ltb (omega arith) (ult-law v A B s small)
  op-law op_add =
      let h = add-law A B (record { net = s; carry = 0; out = blank }) v (omega (arith, blank-long)) in
      record {
        ext = ext-weaken s _ (add_cost A B v) (3 * v) (cost-three A B v) h.ext;
        value = λ e o. add-value A B (record { net = s; carry = 0; out = blank }) v _ h refl e o;
        formed = λ rm a b f. let q = h.formed rm a (b refl) (omega (arith, f.two)) f in (q.0, q.2);
        known = λ a b. let q = h.known a (b refl) (omega arith) in (q.0, q.2);
      }
  op-law op_sub =
      let h = sub-law v A B s blank (omega arith) (omega (arith, blank-long)) in
      record {
        ext = ext-weaken s _ (sub_cost A B v) (4 * v) (sub-four A B v) h.ext;
        value = λ e o. sub-value v A B s blank _ h e o ∙ sub_same v (num e A v) (num e B v) (num-lt e B v);
        formed = λ rm a b f. h.formed rm a (b refl) f;
        known = λ a b. h.known a (b refl);
      }
  op-law op_mul =
      let h = mul-law v A B (fresh s) (omega arith) (omega (arith, blank-long)) in
      record {
        ext = ext-weaken s _ (mul_cost v) (2 * v * (v + 1)) (omega arith) h.ext;
        value = h.value;
        formed = λ rm a b f. h.formed rm a (b refl) f;
        known = λ a b. h.known a (b refl);
      }
  op-law op_sll = shift_word Left
  op-law op_srl = shift_word Right
