-- The kinds that are plain operations, one by one.
use mathlib.Core.Path.{◌≡◌, refl}
use mathlib.Core.Bool.{true}
use Rattle.loops.specs.Loop.{pick}
use Rattle.digits.specs.Op.{Op, op_two, op_one}
use Rattle.digits.proofs.Ops.{each-op}
use Rattle.table.specs.Kind.{uses_a, uses_b, compares}
use Rattle.table.specs.Op.{op_kind, by_op}

pub op-a : (o : Op) → uses_a (op_kind o) ≡ true
op-a = each-op (λ o. uses_a (op_kind o) ≡ true) refl refl refl refl refl refl refl refl refl refl

pub op-b : (o : Op) → uses_b (op_kind o) ≡ op_two o
unfolding op_two
op-b = each-op (λ o. uses_b (op_kind o) ≡ op_two o) refl refl refl refl refl refl refl refl refl refl

pub op-compares : (o : Op) → compares (op_kind o) ≡ op_one o
unfolding op_one
op-compares = each-op (λ o. compares (op_kind o) ≡ op_one o) refl refl refl refl refl refl refl refl refl refl

pub by-op : {A : Type 0} (none : A) (f : Op → A) (o : Op) → by_op (op_kind o) none f ≡ f o
unfolding by_op pick
by-op none f = each-op (λ o. by_op (op_kind o) none f ≡ f o) refl refl refl refl refl refl refl refl refl refl
