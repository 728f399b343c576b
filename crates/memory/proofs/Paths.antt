-- What the code's calls come to, path by path, over the definitions alone: a proof of the code cites each by its bare name in `search`.
use mathlib.Core.Path.{◌≡◌, refl, ap, sym, ◌∙◌}
use mathlib.Core.List.{List}
use Prim.Native.Nat.{ℕ, zero, suc, ◌+◌, ◌*◌, ◌-◌, ◌≤◌, ◌<◌}
use native.Mathlib.Omega.{arith}
use native.Mathlib.Nat.{mul-le-mul_right}
use native.Mathlib.Decide.{dec_lt}
use borrow.Rule.Slice.PartMut.{put_mid}
use Rattle.std.proofs.lemmas.List.{ext_get_or, take_all, length-take-le, length-drop}
use lib.Seq.{get_or-set_same, get_or-set_other}
use lib.ListN.{length, get_or, take, drop}
use borrow.Author.Tests.{lt-ltb, le-ltb}
use Rattle.std.specs.Prelude.{Some, None}
use Rattle.loops.specs.Loop.{pick, iter, first, found}
use Rattle.loops.proofs.Loop.{by-pick, iter-inv}
use Rattle.loops.proofs.Search.{some_first, none_first}
use Rattle.table.specs.Sheet.{is_at}
use Rattle.netlist.specs.Net.{Net}
use Rattle.gates.specs.declared.list.GateList.{GateList}
use Rattle.gates.specs.Made.{MadeBit, net_of, made_of}
use Rattle.gates.specs.Law.{Ext}
use Rattle.gates.proofs.Laws.{ext_refl, ext_trans, ext-weaken}
use Rattle.digits.specs.Digits.{put_digits, all_known, known}
use Rattle.digits.proofs.Words.{some_known, none_known}
use Rattle.words.specs.declared.each.Bitwise.{Bitwise}
use Rattle.words.specs.declared.each.Bitwise.TheVariants.{Or, AndWith, Choose}
use Rattle.words.specs.Num.{blank}
use Rattle.words.specs.Each.{Word, word_of, bitwise, each_step, each_bit, each_cost, copy_step, put_bits, Put}
use Rattle.words.specs.Eq.{eq_words, eq_cost}
use Rattle.words.proofs.NumLaws.{blank-long}
use Rattle.words.proofs.EachLaws.{ors-cost, choose-cost, each_long, each-rest, put-law, put-mid}
use Rattle.words.proofs.EqLaws.{eq-left}
use Rattle.words.proofs.MulStep.{row-cost}
use Rattle.words.proofs.Paths.{each-most}
use Rattle.memory.specs.Address.{part, at_listed}
use Rattle.memory.specs.Read.{cleared, read_known, read_one, read_step, read_words}
use Rattle.memory.specs.Write.{write_known, write_one, write_step, write_words}
use Rattle.memory.proofs.AddressLaws.{digits-known, at-ext, word_end}
use Rattle.memory.proofs.ReadLaws.{put_low, one-ext}
use Rattle.memory.proofs.WriteLaws.{step-ext}

-- Eq with a listed address
module _ (w a : ℕ) (adr d : List ℕ) (e : d ≡ put_digits a w blank) where
  pub at_room : 1 ≤ w → w ≤ 64 → eq_cost d adr w ≤ 2 * w - 1
  at_room big small = rw e (eq-left (put_digits a w blank) adr w big (digits-known w a small))

  pub at_path : (s : Net) (m : MadeBit) → m ≡ eq_words w d adr s → m ≡ at_listed w a adr s
  unfolding at_listed
  at_path s m q = rw (← e) q

at_most : (w a : ℕ) (adr : List ℕ) (s : Net) (t : GateList) (b : ℕ) → 1 ≤ w → w ≤ 64 → made_of t b ≡ at_listed w a adr s → t.n ≤ s.n + (2 * w - 1)
at_most w a adr s t b big small e = omega (arith, ap (λ (m : MadeBit). m.net.n) e, (at-ext w a adr s big small).grows.upto)

-- a known address
pub listed-end : (addrs : List ℕ) (a i w : ℕ) → Some i ≡ found (length addrs) (is_at addrs a) → i * w + w ≤ length addrs * w
listed-end addrs a i w e = word_end i (length addrs) w (some_first (is_at addrs a) (length addrs) i e).1

module _ (w : ℕ) (addrs mem : List ℕ) (a : ℕ) (out out' : List ℕ) where
  pub read-listed : (i : ℕ) → Some i ≡ found (length addrs) (is_at addrs a) → out' ≡ put_bits 0 (take (i * w + w - i * w) (drop (i * w) mem)) w out → out' ≡ read_known (length addrs) w addrs mem a out
  unfolding read_known pick
  read-listed i e q = let z = some_first (is_at addrs a) (length addrs) i e in let p : i * w + w - i * w ≡ w = omega arith in rw (← z.0, lt-ltb i (length addrs) z.1) (rw p at q)

  pub read-unlisted : None ≡ found (length addrs) (is_at addrs a) → out' ≡ put_bits 0 blank w out → out' ≡ read_known (length addrs) w addrs mem a out
  unfolding read_known pick
  read-unlisted e q = rw (le-ltb (first (length addrs) (is_at addrs a)) (length addrs) (none_first (is_at addrs a) (length addrs) e)) q

module _ (w : ℕ) (addrs val : List ℕ) (a : ℕ) (mem mem' : List ℕ) where
  pub write-listed : (i : ℕ) → Some i ≡ found (length addrs) (is_at addrs a) → mem' ≡ put_bits (i * w) val w mem → mem' ≡ write_known (length addrs) w addrs a val mem
  unfolding write_known pick
  write-listed i e q = let z = some_first (is_at addrs a) (length addrs) i e in rw (← z.0, lt-ltb i (length addrs) z.1) q

  pub write-unlisted : None ≡ found (length addrs) (is_at addrs a) → mem ≡ write_known (length addrs) w addrs a val mem
  unfolding write_known pick
  write-unlisted e = rw (le-ltb (first (length addrs) (is_at addrs a)) (length addrs) (none_first (is_at addrs a) (length addrs) e))

-- a word made over any other is the same
module _ (op : Bitwise) (left right : List ℕ) (s : Net) (o o' : List ℕ) where
  abbrev over : List ℕ → ℕ → Word
  over l w = each_bit op left right w (record { net = s; out = l })

  record Alike (w : ℕ) : Type 0 where
    net : (over o w).net ≡ (over o' w).net
    at : (j : ℕ) → j < w → get_or (over o w).out j 0 ≡ get_or (over o' w).out j 0

  alike-step : (w : ℕ) → w < length o → w < length o' → Alike w → Alike (suc w)
  unfolding iter each_step
  alike-step w h k r = record { net = ap (λ (n : Net). (made n).net) r.net; at = λ j l. one j l (dec_lt j w) }
    where
      made : Net → MadeBit
      made n = bitwise op n (get_or left w 0) (get_or right w 0)

      one : (j : ℕ) → j < suc w → Dec (j < w) → get_or (over o (suc w)).out j 0 ≡ get_or (over o' (suc w)).out j 0
      one j l (yes m) = get_or-set_other (over o w).out w j _ 0 (omega arith) ∙ (r.at j m ∙ sym (get_or-set_other (over o' w).out w j _ 0 (omega arith)))
      one j l (no m) =
          let q : j ≡ w = omega arith in
          rw q
          (get_or-set_same (over o w).out w _ 0 (omega (arith, each_long op left right (record { net = s; out = o }) w))
          ∙ (ap (λ (n : Net). (made n).bit) r.net ∙ sym (get_or-set_same (over o' w).out w _ 0 (omega (arith, each_long op left right (record { net = s; out = o' }) w)))))

  each_alike : (w : ℕ) → w ≤ length o → w ≤ length o' → Alike w
  unfolding iter
  each_alike zero h k = record { net = refl; at = λ j l. absurd (omega arith) }
  each_alike (suc w) h k = alike-step w (omega arith) (omega arith) (each_alike w (omega arith) (omega arith))

  -- made elsewhere and then put there, or made there
  put-alike : (w : ℕ) → w ≤ length o → w ≤ length o' → put_bits 0 (over o' w).out w o ≡ (over o w).out
  put-alike w h k =
      let m : Put 0 (over o' w).out o w (put_bits 0 (over o' w).out w o) = put-law 0 (over o' w).out o w (omega arith) in
      ext_get_or 0 _ _ (m.long ∙ sym (each_long op left right (record { net = s; out = o }) w)) (λ i l. go m i (dec_lt i w))
    where
      go : Put 0 (over o' w).out o w (put_bits 0 (over o' w).out w o) → (i : ℕ) → Dec (i < w) → get_or (put_bits 0 (over o' w).out w o) i 0 ≡ get_or (over o w).out i 0
      go m i (yes l) = put_low (over o' w).out o w h i l ∙ sym ((each_alike w h k).at i l)
      go m i (no l) = m.above i (omega arith) ∙ sym (each-rest op left right (record { net = s; out = o }) w i (omega arith))

put_same : (from : ℕ) (bits bits' map : List ℕ) (w : ℕ) → ((j : ℕ) → j < w → get_or bits j 0 ≡ get_or bits' j 0) → put_bits from bits w map ≡ put_bits from bits' w map
unfolding iter copy_step
put_same from bits bits' map zero h = refl
put_same from bits bits' map (suc w) h = rw (put_same from bits bits' map w (λ j l. h j (omega arith)), h w (omega arith))

-- Read at one listed address
module _ (w a : ℕ) (word adr : List ℕ) (t t₁ : GateList) (b : ℕ) (big : 1 ≤ w) (small : w ≤ 64) (p : made_of t₁ b ≡ at_listed w a adr (net_of t)) where
  pub ands-room : t₁.n + each_cost (AndWith b) word word w ≤ t.n + (4 * w - 1)
  ands-room = omega (arith, at_most w a adr (net_of t) t₁ b big small p, row-cost word b w)

  module _ (t₂ : GateList) (ands : List ℕ) (q : word_of t₂ ands ≡ each_bit (AndWith b) word word w (word_of t₁ blank)) (out : List ℕ) where
    pub ors-room : t₂.n + each_cost Or out ands w ≤ t.n + (4 * w - 1)
    ors-room =
        omega (arith, at_most w a adr (net_of t) t₁ b big small p, row-cost word b w, ors-cost out ands w, each-most (AndWith b) word word (word_of t₁ blank) t₂ ands w q)

    pub read-one-path : (fits : w ≤ length out) (t₃ : GateList) (made out' : List ℕ) → word_of t₃ made ≡ each_bit Or out ands w (word_of t₂ ands) → out' ≡ put_bits 0 made w out
        → word_of t₃ out' ≡ read_one w a word adr (word_of t out)
    unfolding read_one
    read-one-path fits t₃ made out' u v =
        let l : w ≤ length ands = omega (arith, ap (λ (y : Word). length y.out) q, each_long (AndWith b) word word (word_of t₁ blank) w, blank-long) in
        let x : Word = each_bit Or out ands w (word_of t₂ ands) in
        let r : record { net = x.net; out = put_bits 0 x.out w out } ≡ each_bit Or out ands w (word_of t₂ out) =
        rw (put-alike Or out ands (net_of t₂) out ands w fits l, (each_alike Or out ands (net_of t₂) out ands w fits l).net) in
        ap {B = Word} (λ o. word_of t₃ o) v
        ∙ (ap {B = Word} (λ (y : Word). record { net = y.net; out = put_bits 0 y.out w out }) u
        ∙ (r
        ∙ (ap ors q ∙ ap (λ (m : MadeBit). ors (each_bit (AndWith m.bit) word word w (record { net = m.net; out = blank }))) p)))
      where
        ors : Word → Word
        ors y = each_bit Or out y.out w (record { net = y.net; out = out })

pub read-step-path : (w i : ℕ) (addrs mem adr : List ℕ) (s x : Word) → x ≡ read_one w (get_or addrs i 0) (take (i * w + w - i * w) (drop (i * w) mem)) adr s → x ≡ read_step w addrs mem adr i s
unfolding read_step
read-step-path w i addrs mem adr s x e = let p : i * w + w - i * w ≡ w = omega arith in rw p at e

-- Write at one listed address
module _ (w a : ℕ) (adr val : List ℕ) (t t₁ : GateList) (b : ℕ) (p : made_of t₁ b ≡ at_listed w a adr (net_of t)) (word : List ℕ) where
  pub choose-room : 1 ≤ w → w ≤ 64 → t₁.n + each_cost (Choose b) val word w ≤ t.n + (5 * w - 1)
  choose-room big small = omega (arith, at_most w a adr (net_of t) t₁ b big small p, choose-cost b val word w)

  pub write-one-path : (x : Word) → x ≡ each_bit (Choose b) val word w (word_of t₁ word) → x ≡ write_one w a adr val (word_of t word)
  unfolding write_one
  write-one-path x q = q ∙ ap (λ (m : MadeBit). each_bit (Choose m.bit) val word w (record { net = m.net; out = word })) p

-- word i of the memory lent to it
module _ (w i : ℕ) (addrs adr val mem : List ℕ) (small : w ≤ 64) (fits : i * w + w ≤ length mem) where
  pub write-step-path : (t t' : GateList) (word : List ℕ) → word_of t' word ≡ write_one w (get_or addrs i 0) adr val (word_of t (take (i * w + w - i * w) (drop (i * w) mem)))
      → word_of t' (put_mid (i * w) (i * w + w - i * w) mem word) ≡ write_step w addrs adr val i (word_of t mem)
  unfolding write_one write_step
  write-step-path t t' word e =
      let z : i * w + w - i * w ≡ w = omega arith in
      let q : MadeBit = at_listed w (get_or addrs i 0) adr (net_of t) in
      let d : length (part i w mem) ≡ w = length-take-le w (drop (i * w) mem) (omega (arith, length-drop (i * w) mem)) in
      let x : Word = each_bit (Choose q.bit) val (part i w mem) w (record { net = q.net; out = part i w mem }) in
      let r : word_of t' word ≡ x = rw z at e in
      let l : length word ≡ w = ap (λ (y : Word). length y.out) r ∙ (each_long (Choose q.bit) val (part i w mem) (record { net = q.net; out = part i w mem }) w ∙ d) in
      let k : Alike (Choose q.bit) val (part i w mem) q.net (part i w mem) blank w =
      each_alike (Choose q.bit) val (part i w mem) q.net (part i w mem) blank w (omega (arith, d)) (omega (arith, blank-long)) in
      ap {B = Word} (λ o. word_of t' o) (put-mid (i * w) word mem word w (i * w + w - i * w) fits (omega (arith, l)) z (sym (take_all w word (omega (arith, l)))))
      ∙ (ap {B = Word} (λ (y : Word). record { net = y.net; out = put_bits (i * w) y.out w mem }) r
      ∙ rw (k.net, put_same (i * w) x.out (each_bit (Choose q.bit) val (part i w mem) w (record { net = q.net; out = blank })).out mem w k.at))

-- a loop over the listed addresses, each at most k gates
module _ (f : ℕ → Word → Word) (k : ℕ) (ext : (i : ℕ) (s : Word) → Ext s.net (f i s).net k) where
  each-listed : (s : Word) (i : ℕ) → Ext s.net (iter i f s).net (i * k)
  each-listed s i =
      iter-inv (λ j (x : Word). Ext s.net x.net (j * k)) f s i (ext_refl s.net (0 * k))
      (λ j x lt h. ext-weaken s.net _ (j * k + k) (suc j * k) (omega arith) (ext_trans s.net x.net _ (j * k) k h (ext j x)))

  module _ (s : Word) (t : GateList) (out : List ℕ) (i : ℕ) (e : word_of t out ≡ iter i f s) where
    pub listed-room : (m : ℕ) → i < m → t.n + k ≤ s.net.n + m * k
    listed-room m l = omega (arith, ap (λ (x : Word). x.net.n) e, (each-listed s i).grows.upto, mul-le-mul_right {m = suc i} {n = m} k l)

module _ (w : ℕ) (addrs mem adr : List ℕ) (big : 1 ≤ w) (small : w ≤ 64) where
  reads-ext : (j : ℕ) (x : Word) → Ext x.net (read_step w addrs mem adr j x).net (4 * w - 1)
  unfolding read_step
  reads-ext j x = one-ext w (get_or addrs j 0) (part j w mem) adr x big small

  module _ (s : Word) (t : GateList) (out : List ℕ) (i : ℕ) (e : word_of t out ≡ iter i (read_step w addrs mem adr) s) where
    pub reads-room : (m : ℕ) → i < m → t.n + (4 * w - 1) ≤ s.net.n + m * (4 * w - 1)
    reads-room = listed-room (read_step w addrs mem adr) (4 * w - 1) reads-ext s t out i e

module _ (w : ℕ) (addrs adr val : List ℕ) (big : 1 ≤ w) (small : w ≤ 64) where
  writes-ext : (j : ℕ) (x : Word) → Ext x.net (write_step w addrs adr val j x).net (5 * w - 1)
  writes-ext j x = step-ext w addrs adr val j x big small

  module _ (s : Word) (t : GateList) (out : List ℕ) (i : ℕ) (e : word_of t out ≡ iter i (write_step w addrs adr val) s) where
    pub writes-room : (m : ℕ) → i < m → t.n + (5 * w - 1) ≤ s.net.n + m * (5 * w - 1)
    writes-room = listed-room (write_step w addrs adr val) (5 * w - 1) writes-ext s t out i e

-- the address's width is its length
module _ (w : ℕ) (adr : List ℕ) (lw : w ≡ length adr) where
  pub read-at-known : (N : ℕ) (addrs mem : List ℕ) (t : GateList) (out out' : List ℕ) (a : ℕ) → Some a ≡ known (length adr) adr → out' ≡ read_known N w addrs mem a out
      → word_of t out' ≡ read_words N w addrs mem adr (word_of t out)
  unfolding read_words pick
  read-at-known N addrs mem t out out' a z e = let k = some_known w adr a (rw (← lw) at z) in rw (k.0, ← k.1) (ap {B = Word} (λ o. word_of t o) e)

  pub read-at-other : (N : ℕ) (addrs mem : List ℕ) (t : GateList) (out out₁ : List ℕ) (x : Word) → None ≡ known (length adr) adr → out₁ ≡ put_bits 0 blank w out
      → x ≡ iter N (read_step w addrs mem adr) (word_of t out₁) → x ≡ read_words N w addrs mem adr (word_of t out)
  unfolding read_words pick
  read-at-other N addrs mem t out out₁ x z e₁ e = rw (none_known w adr (rw (← lw) at z)) (e ∙ ap (λ (o : List ℕ). iter N (read_step w addrs mem adr) (word_of t o)) e₁)

  pub write-at-known : (N : ℕ) (addrs val : List ℕ) (t : GateList) (mem mem' : List ℕ) (a : ℕ) → Some a ≡ known (length adr) adr → mem' ≡ write_known N w addrs a val mem
      → word_of t mem' ≡ write_words N w addrs adr val (word_of t mem)
  unfolding write_words pick
  write-at-known N addrs val t mem mem' a z e = let k = some_known w adr a (rw (← lw) at z) in rw (k.0, ← k.1) (ap {B = Word} (λ o. word_of t o) e)

  pub write-at-other : (N : ℕ) (addrs val : List ℕ) (s x : Word) → None ≡ known (length adr) adr → x ≡ iter N (write_step w addrs adr val) s → x ≡ write_words N w addrs adr val s
  unfolding write_words pick
  write-at-other N addrs val s x z e = rw (none_known w adr (rw (← lw) at z)) e

-- growth at any addresses, distinct or not
pub read-ext : (n w : ℕ) (addrs mem adr : List ℕ) → 1 ≤ w → w ≤ 64 → (s : Word) → Ext s.net (read_words n w addrs mem adr s).net (n * (4 * w - 1))
unfolding read_words
read-ext n w addrs mem adr big small s =
    by-pick (λ (t : Word). Ext s.net t.net (n * (4 * w - 1))) (all_known w adr) _ _ (λ k. ext_refl s.net (n * (4 * w - 1)))
    (λ k. each-listed (read_step w addrs mem adr) (4 * w - 1) (reads-ext w addrs mem adr big small) (record { net = s.net; out = cleared w s.out }) n)

pub write-ext : (n w : ℕ) (addrs adr val : List ℕ) → 1 ≤ w → w ≤ 64 → (s : Word) → Ext s.net (write_words n w addrs adr val s).net (n * (5 * w - 1))
unfolding write_words
write-ext n w addrs adr val big small s =
    by-pick (λ (t : Word). Ext s.net t.net (n * (5 * w - 1))) (all_known w adr) _ _ (λ k. ext_refl s.net (n * (5 * w - 1)))
    (λ k. each-listed (write_step w addrs adr val) (5 * w - 1) (writes-ext w addrs adr val big small) s n)
