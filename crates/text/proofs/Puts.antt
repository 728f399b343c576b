-- What puts come to, one after the other.
use mathlib.Core.Path.{◌≡◌, refl, ap, sym, ◌∙◌}
use mathlib.Core.List.{List, [], ◌∷◌, ◌++◌, append_assoc}
use mathlib.Core.Bool.{Bool, true, false}
use Prim.Native.Nat.{ℕ, zero, suc, ◌+◌, ◌/◌, ◌%◌, ◌≤◌, ◌<◌}
use native.Mathlib.Omega.{arith}
use native.Mathlib.Numerals.{add-one}
use lib.Dec.{ltb}
use lib.ListN.{length, get_or, take, set, length-set}
use lib.Seq.{take-suc, sets}
use borrow.Author.Tests.{lt-ltb, le-ltb}
use Rattle.loops.specs.Loop.{pick}
use Rattle.text.specs.Number.{digits, decimal}
use Rattle.text.specs.Line.{numbers, rest, line}
use Rattle.text.specs.Put.{Text, push, put, PutDigits}
use Rattle.text.specs.Put.Text.{text}

pub put-append : (t : Text) (u v : List ℕ) → put (put t u) v ≡ put t (u ++ v)
unfolding put
put-append t [] v = refl
put-append t (b ∷ u) v = put-append (push t b) u v

put_last : (t : Text) (u : List ℕ) (b : ℕ) → push (put t u) b ≡ put t (u ++ (b ∷ []))
unfolding put
put_last t [] b = refl
put_last t (c ∷ u) b = put_last (push t c) u b

-- the buffer keeps its length
abbrev pub room_of : Text → ℕ
room_of (text l i) = length l

push_keeps : (t : Text) (b : ℕ) → room_of (push t b) ≡ room_of t
unfolding push pick
push_keeps (text l i) b = go (ltb i (length l))
  where
    go : (x : Bool) → room_of (pick x (text (set l i b) (i + 1)) (text l i)) ≡ length l
    go true = length-set l i b
    go false = refl

pub put_keeps : (bs : List ℕ) (t : Text) → room_of (put t bs) ≡ room_of t
unfolding put
put_keeps [] t = refl
put_keeps (b ∷ bs) t = put_keeps bs (push t b) ∙ push_keeps t b

module _ (l : List ℕ) (i b : ℕ) where
  pub push-in : i < length l → text (set l i b) (i + 1) ≡ push (text l i) b
  unfolding push pick
  push-in h = rw (lt-ltb i (length l) h)

  pub push-out : length l ≤ i → text l i ≡ push (text l i) b
  unfolding push pick
  push-out h = rw (le-ltb i (length l) h)

-- where there is room, all bytes are put
pub put-room : (bs l : List ℕ) (i : ℕ) → i + length bs ≤ length l → put (text l i) bs ≡ text (sets l i bs) (i + length bs)
unfolding put
put-room [] l i h = let z : i ≡ i + 0 = omega arith in ap (text l) z
put-room (b ∷ bs) l i h =
    let k : suc i + length bs ≤ length (set l i b) = rw (length-set l i b) (omega arith) in
    let e : push (text l i) b ≡ text (set l i b) (suc i) = sym (push-in l i b (omega arith)) ∙ ap (text (set l i b)) (omega arith) in
    let q : suc i + length bs ≡ i + suc (length bs) = omega arith in
    rw e (put-room bs (set l i b) (suc i) k ∙ ap (text (sets (set l i b) (suc i) bs)) q)

module _ (t : Text) (s : List ℕ) where
  pub bytes-none : t ≡ put t (take 0 s)
  unfolding put
  bytes-none = refl

  pub bytes-more : (u v : Text) (i : ℕ) → i < length s → u ≡ put t (take i s) → v ≡ push u (get_or s i 0) → v ≡ put t (take (i + 1) s)
  bytes-more u v i h e f = rw (add-one, take-suc s i 0 h, ← put_last t (take i s) (get_or s i 0), ← e) f

numbers-last : (s : List ℕ) (n : ℕ) → numbers (s ++ (n ∷ [])) ≡ numbers s ++ (9 ∷ decimal n)
unfolding numbers
numbers-last [] n = append-nil (9 ∷ decimal n)
  where
    append-nil : (u : List ℕ) → u ++ [] ≡ u
    append-nil [] = refl
    append-nil (b ∷ u) = ap (λ (v : List ℕ). b ∷ v) (append-nil u)
numbers-last (m ∷ s) n = rw (numbers-last s n) (sym (append_assoc (9 ∷ decimal m) (numbers s) (9 ∷ decimal n)))

module _ (t : Text) (s : List ℕ) where
  pub numbers-none : t ≡ put t (numbers (take 0 s))
  unfolding put numbers
  numbers-none = refl

  pub numbers_more : (u v : Text) (i n : ℕ) → i < length s → u ≡ put t (numbers (take i s)) → n ≡ get_or s i 0 → v ≡ put u (9 ∷ decimal n) → v ≡ put t (numbers (take (i + 1) s))
  numbers_more u v i n h e w f = rw (add-one, take-suc s i 0 h, numbers-last (take i s) (get_or s i 0), ← put-append t (numbers (take i s)) (9 ∷ decimal (get_or s i 0)), ← e, ← w) f

module _ (t : Text) (n : ℕ) (v : Text) where
  pub digits-small : n < 10 → v ≡ push t (48 + n) → PutDigits t n v
  unfolding digits put pick
  digits-small h e zero g = absurd (omega arith)
  digits-small h e (suc f) g = rw (lt-ltb n 10 h) e

  pub digits_more : (u : Text) → 10 ≤ n → PutDigits t (n / 10) u → v ≡ push u (48 + n % 10) → PutDigits t n v
  unfolding digits pick
  digits_more u h d e zero g = absurd (omega arith)
  digits_more u h d e (suc f) g = rw (le-ltb n 10 h, ← put_last t (digits f (n / 10)) (48 + n % 10), ← d f (omega arith)) e

  pub decimal-put : PutDigits t n v → v ≡ put t (decimal n)
  unfolding decimal
  decimal-put d = d (suc n) (omega arith)

  pub number_put : (u : Text) → u ≡ push t 9 → v ≡ put u (decimal n) → v ≡ put t (9 ∷ decimal n)
  unfolding put
  number_put u e d = d ∙ ap (λ (t : Text). put t (decimal n)) e

pub rest_put : (t u v : Text) (ns : List ℕ) → u ≡ put t (numbers ns) → v ≡ push u 10 → v ≡ put t (rest ns)
unfolding rest
rest_put t u v ns e h = rw (h, e, put_last)

pub record-put : (t u v : Text) (name ns : List ℕ) → u ≡ put t name → v ≡ put u (rest ns) → v ≡ put t (line name ns)
unfolding line
record-put t u v name ns e h = rw (h, e, put-append)

pub numbered-put : (t u v w : Text) (name ns : List ℕ) (n : ℕ) → u ≡ put t name → v ≡ put u (9 ∷ decimal n) → w ≡ put v (rest ns) → w ≡ put t (line name (n ∷ ns))
unfolding line numbers rest
numbered-put t u v w name ns n e f h = rw (h, f, e, put-append, put-append) (ap (put t) (simp append_assoc))

pub pair_put : (t u v w x : Text) (name : List ℕ) (n m : ℕ) → u ≡ put t name → v ≡ put u (9 ∷ decimal n) → w ≡ put v (9 ∷ decimal m) → x ≡ push w 10 → x ≡ put t (line name (n ∷ m ∷ []))
unfolding line numbers rest
pair_put t u v w x name n m e f g h = rw (h, g, f, e, put-append, put-append, put_last) (ap (put t) (simp append_assoc))
