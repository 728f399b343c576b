-- What the reading loops come to.
use mathlib.Core.Path.{◌≡◌, refl, ap, sym, ◌∙◌}
use mathlib.Core.List.{List, [], ◌∷◌, append_assoc}
use mathlib.Core.Bool.{Bool, true, false}
use Prim.Native.Nat.{ℕ, ◌+◌, ◌*◌, ◌/◌, ◌≤◌, ◌<◌}
use native.Mathlib.Omega.{arith}
use lib.ListN.{length, set, drop, take}
use lib.Seq.{sets, sets-eq, drop-drop}
use borrow.Rule.Slice.PartMut.{put_mid}
use Rattle.std.specs.Prelude.{Option, Some, None}
use Rattle.loops.specs.Loop.{pick}
use Rattle.text.specs.Rows.{rows}
use Rattle.text.specs.Name.{addr_name}
use Rattle.text.specs.Plain.{is_pair, is_addr, addr_of, pair_of, is_node, node_of}
use Rattle.text.specs.Field.{pair_line}
use Rattle.text.specs.NodeLine.{node_line}
use Rattle.text.specs.Read.{addr_size, node_size, fill, Filled}
use Rattle.text.specs.Read.Filled.{filled}
use Rattle.text.proofs.Cuts.{row, rest}
use Rattle.text.proofs.Pairs.{pair-row}
use Rattle.text.proofs.Nodes.{node-row}
use Rattle.text.proofs.Fills.{fill-full, line-bad, line-more}

pub addr-one : (r : List (List ℕ)) → length (addr_of r) ≡ addr_size
unfolding addr_of
addr-one r = refl

pub node-six : (r : List (List ℕ)) → length (node_of r) ≡ node_size
unfolding node_of
node-six r = refl

abbrev pub Addrs : List ℕ → ℕ → List (List (List ℕ)) → Filled
Addrs a n rs = fill addr_size is_addr addr_of a n rs

abbrev pub Nodes : List ℕ → ℕ → List (List (List ℕ)) → Filled
Nodes b n rs = fill node_size is_node node_of b n rs

module _ (s : List ℕ) (n : ℕ) where
  module _ (a : List ℕ) where
    -- an address line, as a record
    as_row : Option (ℕ × List ℕ) → Option (List ℕ × List ℕ)
    as_row None = None
    as_row (Some p) = Some (p.0 ∷ [], p.1)

    as_record : as_row (pair_line addr_name s) ≡ pick (is_addr (n + 1) (row s)) (Some (addr_of (row s), rest s)) None
    unfolding is_addr addr_of pick as_row
    as_record = rw (pair-row addr_name s) (go (is_pair addr_name (row s)))
      where
        go : (b : Bool) → as_row (pick b (Some (pair_of (row s), rest s)) None) ≡ pick b (Some (pair_of (row s) ∷ [], rest s)) None
        go true = refl
        go false = refl

    empty : is_addr (n + 1) (row []) ≡ false
    unfolding is_addr is_pair row
    empty = refl

    pub addr-bad : pair_line addr_name s ≡ None → filled a n (rows s) ≡ Addrs a n (rows s)
    unfolding as_row
    addr-bad e = line-bad addr_size is_addr addr_of a n s (sym as_record ∙ ap as_row e)

    pub addr_more : (v : ℕ) (t : List ℕ) → pair_line addr_name s ≡ Some (v, t) → n < length a → Addrs (set a n v) (n + 1) (rows t) ≡ Addrs a n (rows s)
    unfolding as_row
    addr_more v t e l =
        let z : addr_size * n ≡ n = omega arith in
        rw z at (line-more addr_size is_addr addr_of a n s empty (v ∷ []) t (sym as_record ∙ ap as_row e) (omega arith) (omega arith))

  module _ (b : List ℕ) where
    no_node : is_node (n + 1) (row []) ≡ false
    unfolding is_node row
    no_node = refl

    pub node-bad : node_line (n + 1) s ≡ None → filled b n (rows s) ≡ Nodes b n (rows s)
    node-bad e = line-bad node_size is_node node_of b n s (sym (node-row (n + 1) s) ∙ e)

    pub node-more : (r t c : List ℕ) → c ≡ sets b (node_size * n) r → node_line (n + 1) s ≡ Some (r, t) → length r ≡ node_size → n < length b / node_size → Nodes c (n + 1) (rows t) ≡ Nodes b n (rows s)
    node-more r t c d e h l = rw d (line-more node_size is_node node_of b n s no_node r t (sym (node-row (n + 1) s) ∙ e) l (omega arith))

-- the room is used up
pub addrs_full : (a : List ℕ) (n m : ℕ) (rs : List (List (List ℕ))) → m ≡ length a → m ≡ n → filled a m rs ≡ Addrs a n rs
addrs_full a n m rs h e = rw e (fill-full addr_size is_addr addr_of a n rs (omega arith))

pub nodes_full : (b : List ℕ) (n m : ℕ) (rs : List (List (List ℕ))) → m ≡ length b / node_size → m ≡ n → filled b m rs ≡ Nodes b n rs
nodes_full b n m rs h e = rw e (fill-full node_size is_node node_of b n rs (omega arith))

-- a record written into its places
pub stored_as : (l : List ℕ) (i k : ℕ) (r m : List ℕ) → k ≡ length r → i + length r ≤ length l → m ≡ r → put_mid i k l m ≡ sets l i r
stored_as l i k r m h g e = rw (e, h, drop-drop (length r) i l) (sym (append_assoc (take i l) r (drop (i + length r) l)) ∙ sym (sets-eq r l i g))
