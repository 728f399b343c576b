-- What a caller of `read_text` knows by its answer.
use mathlib.Core.Path.{◌≡◌, refl, ap, sym}
use mathlib.Core.List.{List, [], ◌∷◌}
use mathlib.Core.Bool.{true, false}
use Prim.Native.Nat.{ℕ, ◌*◌, ◌/◌, ◌≤◌}
use native.Mathlib.Omega.{arith}
use lib.ListN.{length, take, drop, length-append}
use lib.Seq.{take_at}
use Rattle.std.specs.Prelude.{Some, None}
use Rattle.text.specs.declared.read.Table.{Table}
use Rattle.text.specs.Over.{over}
use Rattle.text.specs.Plain.{Plain, plain_text}
use Rattle.text.specs.Plain.Plain.{plain}
use Rattle.text.specs.Read.{addr_size, node_size, flat, answer_of, stored_of, read_text, addr_list, node_table, word_width}
use Rattle.text.specs.Read.Stored.{stored}
use Rattle.text.specs.TableText.{AddrRecord, NodeRecord, All}
use Rattle.text.proofs.Accepted.{accepted}

flat-length : (P : List ℕ → Type 0) (size : ℕ) → ((r : List ℕ) → P r → length r ≡ size) → (ls : List (List ℕ)) → All P ls → length (flat ls) ≡ length ls * size
unfolding flat
flat-length P size s [] a = omega arith
flat-length P size s (r ∷ ls) a =
    let e = s r a.0 in
    let f = flat-length P size s ls a.1 in
    rw (length-append r (flat ls)) (omega arith)

abbrev pub table : ℕ → ℕ → ℕ → Table
table w n m = record { word = w; addrs = n; nodes = m }

abbrev pub plain_of : List ℕ → List ℕ → List ℕ → Plain
plain_of x a b = plain_text (length a / addr_size) (length b / node_size) x

-- a table: the used parts of the buffers are the text's addresses and nodes
pub record TableRead (x a b c d : List ℕ) (w n m : ℕ) : Type 0 where
  pub good : answer_of (plain_of x a b) ≡ Some (table w n m)
  pub word : w ≡ word_width (plain_of x a b)
  pub addrs : take n c ≡ addr_list (plain_of x a b)
  pub nodes : take (node_size * m) d ≡ node_table (plain_of x a b)
  pub few : n ≤ length a
  pub some : node_size * m ≤ length b

pub table-read : (x a b c d : List ℕ) (w n m : ℕ) → stored (Some (table w n m)) c d ≡ read_text x a b → TableRead x a b c d w n m
unfolding read_text stored_of answer_of
table-read x a b c d w n m e = go (plain_of x a b) refl
  where
    go : (p : Plain) → plain_of x a b ≡ p → TableRead x a b c d w n m
    go (plain false v xs ns) q = absurd (let f = rw q at e in let z : ◌≡◌ {A = ℕ} 0 1 = cc in omega arith)
    go (plain true v xs ns) q =
        let f = rw q at e in
        let t = (accepted (length a / addr_size) (length b / node_size) x v xs ns q).1 in
        let k = flat-length AddrRecord addr_size (λ r h. h.0) xs t.addrs in
        let l = flat-length NodeRecord node_size (λ r h. h.six) ns t.nodes in
        let h : table w n m ≡ table v (length xs) (length ns) = cc in
        let f₁ : w ≡ v = ap (λ (t : Table). t.word) h in
        let f₂ : n ≡ length xs = ap (λ (t : Table). t.addrs) h in
        let f₃ : m ≡ length ns = ap (λ (t : Table). t.nodes) h in
        let f₄ : c ≡ over (flat xs) a = cc in
        let f₅ : d ≡ over (flat ns) b = cc in
        let g : answer_of (plain_of x a b) ≡ Some (table w n m) = rw q (ap Some (sym h)) in
        record {
          good = g;
          word = rw q f₁;
          addrs = rw (q, f₄) (take_at (flat xs) (drop (length (flat xs)) a) n (omega arith));
          nodes = rw (q, f₅) (take_at (flat ns) (drop (length (flat ns)) b) (node_size * m) (omega arith));
          few = omega (arith, t.few);
          some = omega (arith, t.some);
        }

pub refused-read : (x a b c d : List ℕ) → stored None c d ≡ read_text x a b → answer_of (plain_of x a b) ≡ None
unfolding read_text stored_of answer_of
refused-read x a b c d e = go (plain_of x a b) refl
  where
    go : (p : Plain) → plain_of x a b ≡ p → answer_of (plain_of x a b) ≡ None
    go (plain true v xs ns) q = absurd (let f = rw q at e in let z : ◌≡◌ {A = ℕ} 0 1 = cc in omega arith)
    go (plain false v xs ns) q = rw q
