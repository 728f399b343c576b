-- A node's ceiling, kind by kind.
use mathlib.Core.Path.{◌≡◌}
use mathlib.Core.Bool.{true, false}
use Prim.Native.Nat.{ℕ}
use Rattle.loops.specs.Loop.{pick}
use Rattle.loops.proofs.Loop.{pick_true, pick-false}
use Rattle.digits.specs.Op.{Op, op_gates}
use Rattle.digits.proofs.Ops.{each-op}
use Rattle.table.specs.declared.Node.{Node}
use Rattle.table.specs.declared.Unit.TheVariants.{Bit}
use Rattle.table.specs.Kind.{CONST, STATE, BAD, EXT, ITE, DIVU, REM, READ, WRITE, divides}
use Rattle.table.specs.Op.{op_kind, by_op}
use Rattle.table.specs.Node.{given}
use Rattle.table.specs.Size.{size_of}
use Rattle.table.specs.Ceiling.{div_gates, div_constraints, memory_gates, ite_gates, plain_gates, ceiling, constraint_ceiling}

module _ (n w : ℕ) (d : Node) (x : ℕ) where
  pub top-given : given d ≡ true → ceiling n w d x ≡ size_of Bit n w d.width
  unfolding ceiling
  top-given e = pick_true _ _ _ e

  pub top-const : d.kind ≡ CONST → ceiling n w d x ≡ 0
  unfolding ceiling plain_gates by_op pick
  top-const e = rw e

  pub top-state : d.kind ≡ STATE → given d ≡ false → ceiling n w d x ≡ 0
  unfolding ceiling plain_gates by_op pick
  top-state e g = rw (g, e)

  pub top-bad : d.kind ≡ BAD → ceiling n w d x ≡ 0
  unfolding ceiling plain_gates by_op pick
  top-bad e = rw e

  pub top-ext : d.kind ≡ EXT → ceiling n w d x ≡ 0
  unfolding ceiling plain_gates by_op pick
  top-ext e = rw e

  pub top-ite : d.kind ≡ ITE → ceiling n w d x ≡ ite_gates n w d.width
  unfolding ceiling plain_gates by_op pick
  top-ite e = rw e

  pub top-divu : d.kind ≡ DIVU → ceiling n w d x ≡ div_gates d.width
  unfolding ceiling plain_gates by_op pick
  top-divu e = rw e

  pub top-rem : d.kind ≡ REM → ceiling n w d x ≡ div_gates d.width
  unfolding ceiling plain_gates by_op pick
  top-rem e = rw e

  pub top_read : d.kind ≡ READ → ceiling n w d x ≡ memory_gates n w 4
  unfolding ceiling plain_gates by_op pick
  top_read e = rw e

  pub top-write : d.kind ≡ WRITE → ceiling n w d x ≡ memory_gates n w 5
  unfolding ceiling plain_gates by_op pick
  top-write e = rw e

  -- a plain operation
  pub top-op : (o : Op) → d.kind ≡ op_kind o → ceiling n w d x ≡ op_gates o x
  unfolding ceiling plain_gates by_op pick
  top-op =
      each-op (λ o. d.kind ≡ op_kind o → ceiling n w d x ≡ op_gates o x)
      (λ e. rw e) (λ e. rw e) (λ e. rw e) (λ e. rw e) (λ e. rw e) (λ e. rw e) (λ e. rw e) (λ e. rw e) (λ e. rw e) (λ e. rw e)

-- constraints
module _ (d : Node) where
  pub constraints-divide : divides d.kind ≡ true → constraint_ceiling d ≡ div_constraints d.width
  unfolding constraint_ceiling
  constraints-divide e = pick_true _ _ _ e

  pub constraints-else : divides d.kind ≡ false → constraint_ceiling d ≡ 0
  unfolding constraint_ceiling
  constraints-else e = pick-false _ _ _ e
