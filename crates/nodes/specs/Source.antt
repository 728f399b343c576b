-- A table, its address list and its word width, and where its nodes' bits stand in the bit map.
use Rattle.std.specs.Prelude.{List, Bool, ◌&&◌, ℕ, ◌+◌, ◌-◌, ◌*◌, eqb, get_or, length, take, drop}
use Rattle.loops.specs.Loop.{pick}
use Rattle.table.specs.declared.Node.{Node}
use Rattle.table.specs.declared.Unit.TheVariants.{Bit}
use Rattle.table.specs.Kind.{BAD, ITE}
use Rattle.table.specs.Node.{node_at, width_of}
use Rattle.table.specs.Size.{size_of, offset_of, size_sum}
use Rattle.table.specs.Ceiling.{node_gates, node_constraints}
use Rattle.netlist.specs.Bit.{is_known}

pub record Source : Type 0 where
  pub table : List ℕ
  pub addrs : List ℕ
  pub word : ℕ

abbrev pub source : List ℕ → List ℕ → ℕ → Source
source t l w = record { table = t; addrs = l; word = w }

-- how many addresses are listed
abbrev pub listed : Source → ℕ
listed S = length S.addrs

abbrev pub node_of : Source → ℕ → Node
node_of S k = node_at S.table k

-- node k is so many words, each so wide: a word is one, a memory one for each listed address
unfoldable pub words_of : Source → ℕ → ℕ
words_of S k = pick (eqb (width_of S.table k) 0) (listed S) 1

unfoldable pub wide_of : Source → ℕ → ℕ
wide_of S k = pick (eqb (width_of S.table k) 0) S.word (width_of S.table k)

-- its bits; node 0 is none
unfoldable pub bits_of : Source → ℕ → ℕ
bits_of S k = pick (eqb k 0) 0 (size_of Bit (listed S) S.word (width_of S.table k))

-- and where they begin: after those of all lower nodes
abbrev pub off_of : Source → ℕ → ℕ
off_of S k = offset_of Bit S.table (listed S) S.word k

abbrev pub total_of : Source → ℕ
total_of S = size_sum Bit S.table (listed S) S.word

-- the ceilings of node k
unfoldable pub gates_of : Source → ℕ → ℕ
gates_of S k = pick (eqb k 0) 0 (node_gates S.table (listed S) S.word (k - 1))

unfoldable pub asks_of : Source → ℕ → ℕ
asks_of S k = pick (eqb k 0) 0 (node_constraints S.table (k - 1))

-- word i of node x, as a part of the map m
abbrev pub word_at : Source → List ℕ → ℕ → ℕ → List ℕ
word_at S m x i = take (wide_of S x) (drop (off_of S x + i * wide_of S x) m)

-- all bits of node x
abbrev pub all_at : Source → List ℕ → ℕ → List ℕ
all_at S m x = take (bits_of S x) (drop (off_of S x) m)

-- the condition of an ite k
abbrev pub condition_of : Source → List ℕ → ℕ → ℕ
condition_of S m k = get_or (word_at S m (node_of S k).a 0) 0 0

-- operands are visited in the order a, b, c; an ite with a known condition visits only the chosen side
abbrev pub first_of : Source → ℕ → ℕ
first_of S k = (node_of S k).a

unfoldable pub second_of : Source → List ℕ → ℕ → ℕ
second_of S m k = pick (eqb (node_of S k).kind ITE && eqb (condition_of S m k) 0) (node_of S k).c (node_of S k).b

unfoldable pub third_of : Source → List ℕ → ℕ → ℕ
third_of S m k = pick (eqb (node_of S k).kind ITE && is_known (condition_of S m k)) 0 (node_of S k).c

abbrev pub bad_of : Source → ℕ → Bool
bad_of S k = eqb (node_of S k).kind BAD
