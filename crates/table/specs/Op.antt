-- The kinds that are plain operations. A new one is added here too.
use Rattle.std.specs.Prelude.{ℕ, eqb}
use Rattle.loops.specs.Loop.{pick}
use Rattle.digits.specs.Op.{Op, op_not, op_and, op_or, op_eq, op_add, op_sub, op_ult, op_mul, op_sll, op_srl}
use Rattle.table.specs.Kind.{NOT, AND, EQ, ADD, SUB, ULT, MUL, OR, SLL, SRL}

-- the kind of an operation
abbrev pub op_kind : Op → ℕ
op_kind op_not = NOT
op_kind op_and = AND
op_kind op_or = OR
op_kind op_eq = EQ
op_kind op_add = ADD
op_kind op_sub = SUB
op_kind op_ult = ULT
op_kind op_mul = MUL
op_kind op_sll = SLL
op_kind op_srl = SRL

-- f of the operation of a kind; a kind that is none has `none`
unfoldable pub by_op : {A : Type 0} → ℕ → A → (Op → A) → A
by_op k none f =
    pick (eqb k NOT) (f op_not)
    (pick (eqb k AND) (f op_and)
    (pick (eqb k EQ) (f op_eq)
    (pick (eqb k ADD) (f op_add)
    (pick (eqb k SUB) (f op_sub)
    (pick (eqb k ULT) (f op_ult)
    (pick (eqb k MUL) (f op_mul)
    (pick (eqb k OR) (f op_or)
    (pick (eqb k SLL) (f op_sll)
    (pick (eqb k SRL) (f op_srl)
    none)))))))))
