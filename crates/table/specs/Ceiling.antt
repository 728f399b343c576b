-- Ceilings in gates and constraints, and their sums.
use Rattle.std.specs.Prelude.{List, ℕ, ◌+◌, ◌-◌, ◌*◌, ◌/◌, eqb}
use Rattle.loops.specs.Loop.{pick, sum}
use Rattle.digits.specs.Op.{op_gates}
unfoldable pub use Rattle.digits.specs.Op.{shift_gates}
use Rattle.table.specs.declared.Node.{Node}
use Rattle.table.specs.declared.Sums.{Sums}
use Rattle.table.specs.declared.Unit.TheVariants.{Bit}
use Rattle.table.specs.Kind.{ITE, READ, WRITE, divides}
use Rattle.table.specs.Op.{by_op}
use Rattle.table.specs.Node.{width_of, a_of, node_at, nodes, given}
use Rattle.table.specs.Size.{size_of, size_sum}

-- divu, rem
unfoldable pub div_gates : ℕ → ℕ
div_gates v = 2 * v * v + 18 * v + 1 + v * (v - 1) / 2

unfoldable pub div_constraints : ℕ → ℕ
div_constraints v = v * (v - 1) / 2 + 2 * v + 2

-- read, write: k gates a bit, less one, for each listed address
unfoldable pub memory_gates : ℕ → ℕ → ℕ → ℕ
memory_gates n w k = n * (k * w - 1)

-- ite
unfoldable pub ite_gates : ℕ → ℕ → ℕ → ℕ
ite_gates n w v = 3 * size_of Bit n w v

-- gates of a node by its kind, over a first operand x wide: n addresses are listed, w is the word width.
-- const, bad, ext, sext and an initialised state make none
unfoldable pub plain_gates : ℕ → ℕ → Node → ℕ → ℕ
plain_gates n w d x =
    pick (eqb d.kind ITE) (ite_gates n w d.width)
    (pick (eqb d.kind READ) (memory_gates n w 4)
    (pick (eqb d.kind WRITE) (memory_gates n w 5)
    (by_op d.kind 0 (λ o. op_gates o x))))

unfoldable pub ceiling : ℕ → ℕ → Node → ℕ → ℕ
ceiling n w d x =
    pick (given d) (size_of Bit n w d.width)
    (pick (divides d.kind) (div_gates d.width)
    (plain_gates n w d x))

-- constraints of a node by its kind
unfoldable pub constraint_ceiling : Node → ℕ
constraint_ceiling d = pick (divides d.kind) (div_constraints d.width) 0

-- of node i + 1
unfoldable pub node_gates : List ℕ → ℕ → ℕ → ℕ → ℕ
node_gates t n w i = ceiling n w (node_at t (i + 1)) (width_of t (a_of t (i + 1)))

unfoldable pub node_constraints : List ℕ → ℕ → ℕ
node_constraints t i = constraint_ceiling (node_at t (i + 1))

-- over all nodes, reached or not; gates have 2 more
unfoldable pub sums_of : List ℕ → ℕ → ℕ → Sums
sums_of t n w =
    record {
      gates = 2 + sum (nodes t) (node_gates t n w);
      map = size_sum Bit t n w;
      constraints = sum (nodes t) (node_constraints t);
    }
