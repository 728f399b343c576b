-- A slot's value, kind by kind.
use Rattle.std.proofs.Common.{◌≡◌, ℕ, ◌+◌, true, List, Option, get_or}
use Rattle.loops.specs.Loop.{pick}
use Rattle.loops.proofs.Loop.{pick_true}
use Rattle.digits.specs.Op.{Op, op_value}
use Rattle.digits.proofs.Ops.{each-op}
use Rattle.table.specs.declared.Node.{Node}
use Rattle.table.specs.Kind.{CONST, STATE, BAD, EXT, ITE, DIVU, REM, READ, WRITE, SEXT, accesses}
use Rattle.table.specs.Op.{op_kind, by_op}
use Rattle.values.specs.Value.{listed, div_word, rem_word, sext_word, word_value, read_value, write_value, ite_value, place_at, slot_at}

module _ (l : List ℕ) (d : Node) (v : ℕ) (x : List ℕ) (a b c : ℕ) (p : Option ℕ) (j : ℕ) where
  pub at-const : d.kind ≡ CONST → slot_at l d v x a b c p j ≡ d.imm
  unfolding slot_at word_value by_op pick
  at-const e = rw e

  pub at-state : d.kind ≡ STATE → slot_at l d v x a b c p j ≡ get_or x (a + j) 0
  unfolding slot_at pick
  at-state e = rw e

  pub at-bad : d.kind ≡ BAD → slot_at l d v x a b c p j ≡ get_or x a 0
  unfolding slot_at word_value by_op pick
  at-bad e = rw e

  pub at-ext : d.kind ≡ EXT → slot_at l d v x a b c p j ≡ get_or x a 0
  unfolding slot_at word_value by_op pick
  at-ext e = rw e

  pub at-ite : d.kind ≡ ITE → slot_at l d v x a b c p j ≡ ite_value x a b c j
  unfolding slot_at pick
  at-ite e = rw e

  pub at-divu : d.kind ≡ DIVU → slot_at l d v x a b c p j ≡ div_word d.width (get_or x a 0) (get_or x b 0)
  unfolding slot_at word_value by_op pick
  at-divu e = rw e

  pub at-rem : d.kind ≡ REM → slot_at l d v x a b c p j ≡ rem_word (get_or x a 0) (get_or x b 0)
  unfolding slot_at word_value by_op pick
  at-rem e = rw e

  pub at_read : d.kind ≡ READ → slot_at l d v x a b c p j ≡ read_value l x a p
  unfolding slot_at pick
  at_read e = rw e

  pub at-write : d.kind ≡ WRITE → slot_at l d v x a b c p j ≡ write_value x a p (get_or x c 0) j
  unfolding slot_at pick
  at-write e = rw e

  pub at-sext : d.kind ≡ SEXT → slot_at l d v x a b c p j ≡ sext_word v d.width (get_or x a 0)
  unfolding slot_at word_value by_op pick
  at-sext e = rw e

  pub at_op : (o : Op) → d.kind ≡ op_kind o → slot_at l d v x a b c p j ≡ op_value o d.width (get_or x a 0) (get_or x b 0)
  unfolding slot_at word_value by_op pick op_value
  at_op =
      each-op (λ o. d.kind ≡ op_kind o → slot_at l d v x a b c p j ≡ op_value o d.width (get_or x a 0) (get_or x b 0))
      (λ e. rw e) (λ e. rw e) (λ e. rw e) (λ e. rw e) (λ e. rw e) (λ e. rw e) (λ e. rw e) (λ e. rw e) (λ e. rw e) (λ e. rw e)

-- the place of a read's or write's address
pub place-access : (l : List ℕ) (d : Node) (x : List ℕ) (b : ℕ) → accesses d.kind ≡ true → place_at l d x b ≡ listed l (get_or x b 0)
unfolding place_at
place-access l d x b e = pick_true _ _ _ e
