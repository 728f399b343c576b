-- A node that is a plain operation: none of the other kinds, and its word is the operation's.
use mathlib.Core.Path.{◌≡◌, refl, sym, ◌∙◌}
use mathlib.Core.List.{List}
use mathlib.Core.Bool.{Bool, true, false, ◌&&◌, ◌||◌, false≢true}
use Prim.Native.Nat.{ℕ}
use lib.Dec.{eqb}
use Rattle.loops.proofs.Loop.{pick-false}
use Rattle.table.specs.declared.Node.{Node}
use Rattle.table.specs.Kind.{CONST, INPUT, STATE, NOT, BAD, ITE, READ, WRITE, extends, divides}
use Rattle.table.specs.Op.{op_kind}
use Rattle.table.proofs.Ops.{by-op}
use Rattle.netlist.specs.Net.{Net}
use Rattle.digits.specs.Op.{Op, op_two}
use Rattle.digits.proofs.Ops.{each-op}
use Rattle.words.specs.Op.{fresh, op_word}
use Rattle.nodes.specs.Own.{plain_word}
use Rattle.nodes.specs.Asked.{Plain}

pub op-plain : (o : Op) (d : Node) → d.kind ≡ op_kind o → Plain d
op-plain o d e =
    record {
      given = rw e (each-op (λ o. (eqb (op_kind o) INPUT || (eqb (op_kind o) STATE && eqb d.a 0)) ≡ false) refl refl refl refl refl refl refl refl refl refl o);
      shares = rw e (each-op (λ o. (eqb (op_kind o) STATE || eqb (op_kind o) BAD || extends (op_kind o)) ≡ false) refl refl refl refl refl refl refl refl refl refl o);
      chooses = rw e (each-op (λ o. eqb (op_kind o) ITE ≡ false) refl refl refl refl refl refl refl refl refl refl o);
      divides = rw e (each-op (λ o. divides (op_kind o) ≡ false) refl refl refl refl refl refl refl refl refl refl o);
      reads = rw e (each-op (λ o. eqb (op_kind o) READ ≡ false) refl refl refl refl refl refl refl refl refl refl o);
      writes = rw e (each-op (λ o. eqb (op_kind o) WRITE ≡ false) refl refl refl refl refl refl refl refl refl refl o);
    }

-- a not alone has but one operand
pub only-not : (o : Op) → op_two o ≡ false → op_kind o ≡ NOT
unfolding op_two
only-not = each-op (λ o. op_two o ≡ false → op_kind o ≡ NOT) (λ h. refl) un un un un un un un un un
  where
    un : {k : ℕ} → ◌≡◌ {A = Bool} true false → k ≡ NOT
    un h = absurd (false≢true (sym h))

no_const : (o : Op) → eqb (op_kind o) CONST ≡ false
no_const = each-op (λ o. eqb (op_kind o) CONST ≡ false) refl refl refl refl refl refl refl refl refl refl

pub plain-is : (d : Node) (v : ℕ) (A B : List ℕ) (s : Net) (o : Op) → d.kind ≡ op_kind o → plain_word d v A B s ≡ op_word o v A B s
unfolding plain_word
plain-is d v A B s o e = rw e (pick-false _ _ _ (no_const o) ∙ by-op (fresh s) (λ o. op_word o v A B s) o)
