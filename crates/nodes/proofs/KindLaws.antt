-- The law of a word, kind by kind: what it is made of, how many gates it takes at most, and what it makes of known bits.
use mathlib.Core.Path.{◌≡◌, refl, ap, ◌∙◌}
use mathlib.Core.List.{List}
use mathlib.Core.Bool.{Bool, true}
use Prim.Native.Nat.{ℕ, suc, ◌+◌, ◌-◌, ◌*◌, ◌≤◌, ◌<◌}
use native.Mathlib.Omega.{arith}
use lib.ListN.{length, get_or, length-set}
use Rattle.loops.specs.Loop.{iter}
use Rattle.loops.proofs.Loop.{iter-inv}
use Rattle.netlist.specs.Record.{Room}
use Rattle.netlist.specs.Kind.{free}
use Rattle.netlist.specs.Net.{Net}
use Rattle.gates.specs.Made.{MadeBit, added, gate_input_bit}
use Rattle.gates.specs.Given.{GivenLaw}
use Rattle.gates.specs.Law.{Grows, Formed}
use Rattle.gates.proofs.Laws.{grows-refl, grows-weaken, grows-trans, room_back}
use Rattle.gates.proofs.GivenLaws.{given-law}
use Rattle.digits.specs.Digits.{Below, put_digits}
use Rattle.digits.proofs.Numbers.{digit_lt}
use Rattle.digits.proofs.Words as digits
use Rattle.words.specs.declared.each.Bitwise.{Bitwise}
use Rattle.words.specs.declared.each.Bitwise.TheVariants.{Choose}
use Rattle.words.specs.Num.{blank}
use Rattle.words.specs.Each.{Word, bit_cost, bit_below, each_bit, EachLaw}
use Rattle.words.specs.Extend.{extended}
use Rattle.words.specs.Op.{WordLaw}
use Rattle.words.proofs.NumLaws.{blank-long}
use Rattle.words.proofs.Sums.{sum-most}
use Rattle.words.proofs.EachLaws.{each-law, below_set, below_more}
use Rattle.words.proofs.ExtendLaws.{extend-law}
use Rattle.memory.specs.Read.{read_words, ReadLaw}
use Rattle.nodes.specs.Own.{as_is, fresh, input_step}
use Rattle.nodes.proofs.WordLaws.{WordMade}

-- two words of v bits are below b
abbrev pub Both : List ℕ → List ℕ → ℕ → ℕ → Type 0
Both A B v b = Below b A v × Below b B v

-- no gate is made, and every bit is below what is asked
still : {s : Net} {In : ℕ → Type 0} {w : ℕ} {out : List ℕ} → ((b : ℕ) → 2 ≤ b → In b → Below b out w) → WordMade s In w 0 (as_is s out)
still {s} h =
    record {
      grows = grows-refl s 0;
      formed = λ rm i f. (f, h s.n f.two i);
      known = λ i. (refl, h 2 (omega arith) i);
    }

-- const: the digits of a number are known; nothing is asked
abbrev pub Nothing : ℕ → Type 0
Nothing b = b ≡ b

pub const-made : (s : Net) (a w : ℕ) → w ≤ 65 → WordMade s Nothing w 0 (as_is s (put_digits a w blank))
const-made s a w small =
    still (λ b two i j l. let p : digits.Put a blank w (put_digits a w blank) = digits.put-law a w blank (omega (arith, blank-long)) in omega (arith, p.there j l, digit_lt a j))

-- shared bits, and above them the bit a
pub share-made : (s : Net) (a : ℕ) (A : List ℕ) (v w : ℕ) → v ≤ 65 → w ≤ 65 → WordMade s (λ b. (2 ≤ b → a < b) × Below b A v) w 0 (as_is s (extended a v A))
share-made s a A v w small wide = still (λ b two i. (extend-law a v A small).under b w wide (i.0 two) i.1)

-- bit by bit, with at most c gates a bit
pub each-made : (op : Bitwise) (A B : List ℕ) (v c : ℕ) (s : Net) → v ≤ 65 → ((a b : ℕ) → bit_cost op a b ≤ c)
    → WordMade s (λ b. (i : ℕ) → i < v → bit_below op b (get_or A i 0) (get_or B i 0)) v (c * v) (each_bit op A B v (fresh s))
each-made op A B v c s small most =
    let h : EachLaw op A B (fresh s) v (each_bit op A B v (fresh s)) = each-law op A B (fresh s) v (omega (arith, blank-long)) in
    record {
      grows = grows-weaken s _ _ (c * v) (sum-most (λ i. bit_cost op (get_or A i 0) (get_or B i 0)) c v (λ i l. most (get_or A i 0) (get_or B i 0))) h.ext.grows;
      formed = h.formed;
      known = λ i. (ap (λ (t : Net). t.n) (h.known i), λ j l. h.known_at j l (i j l));
    }

pub choose-made : (s : Net) (c : ℕ) (A B : List ℕ) (v : ℕ) → v ≤ 65
    → WordMade s (λ b. (i : ℕ) → i < v → (c < b) × (get_or A i 0 < b) × (get_or B i 0 < b)) v (3 * v) (each_bit (Choose c) A B v (fresh s))
unfolding bit_below bit_cost
choose-made s c A B v small = each-made (Choose c) A B v 3 s small (λ a b. omega arith)

-- a word by its law
pub word_made : {v : ℕ} {A B : List ℕ} {s : Net} {two : Bool} {w c : ℕ} {f : ℕ → ℕ → ℕ} {t : Word} → WordLaw v A B s two w c f t
    → WordMade s (λ b. Below b A v × (two ≡ true → Below b B v)) w c t
word_made h =
    record {
      grows = h.ext.grows;
      formed = λ rm i f. h.formed rm i.0 i.1 f;
      known = λ i. let q = h.known i.0 i.1 in (ap (λ (t : Net). t.n) q.0, q.1);
    }

-- a read, from its law
pub read_made : (s : Net) (n w : ℕ) (addrs mem adr : List ℕ) → ReadLaw n w addrs mem adr (fresh s) (read_words n w addrs mem adr (fresh s))
    → WordMade s (λ b. Below b mem (n * w) × Below b adr w) w (n * (4 * w - 1)) (read_words n w addrs mem adr (fresh s))
read_made s n w addrs mem adr h =
    record {
      grows = h.ext.grows;
      formed = λ rm i f. h.formed rm i.0 i.1 f;
      known = λ i. let q = h.known i.1 in (ap (λ (t : Net). t.n) q.0, q.1 i.0);
    }

-- an input: one InputBit a bit
pub record InputsMade (s : Net) (i : ℕ) (y : Word) : Type 0 where
  pub grows : Grows s y.net i
  pub long : length y.out ≡ 65
  pub formed : Room y.net.gates y.net.n → Formed s → Formed y.net × Below y.net.n y.out i

is_free : free 2 ≡ true
unfolding free
is_free = refl

input-more : (s : Net) (k from i : ℕ) (x : Word) → i < 65 → InputsMade s i x → InputsMade s (suc i) (input_step k from i x)
unfolding input_step
input-more s k from i x lt h =
    record {
      grows = grows-weaken s m.net (i + 1) (suc i) (omega arith) (grows-trans s x.net m.net i 1 h.grows g.grows);
      long = length-set x.out i m.bit ∙ h.long;
      formed = λ rm f.
          let q : Formed x.net × Below x.net.n x.out i = h.formed (room_back x.net m.net 1 g.grows rm) f in (
            g.formed rm q.0,
            below_set m.net.n x.out i m.bit (omega (arith, h.long)) (below_more x.net.n m.net.n x.out i g.grows.from q.1) (omega (arith, g.bit, g.count)),
          );
    }
  where
    m : MadeBit
    m = added x.net (gate_input_bit k (from + i))

    g : GivenLaw x.net (gate_input_bit k (from + i)) m
    g = given-law x.net 2 k (from + i) is_free

pub inputs-made : (s : Net) (k from w : ℕ) → w ≤ 65 → InputsMade s w (iter w (input_step k from) (fresh s))
inputs-made s k from w small =
    iter-inv (InputsMade s) (input_step k from) (fresh s) w (record { grows = grows-refl s 0; long = blank-long; formed = λ rm f. (f, λ i l. absurd (omega arith)) })
    (λ i x lt h. input-more s k from i x (omega arith) h)
