-- A node's own gates and bits, kind by kind: document 01's recipe over the bit map.
use Rattle.std.specs.Prelude.{List, Bool, ◌||◌, ℕ, ◌+◌, ◌-◌, ◌*◌, eqb, get_or, set}
use Rattle.loops.specs.Loop.{pick, iter}
use Rattle.table.specs.declared.Node.{Node}
use Rattle.table.specs.Kind.{CONST, STATE, BAD, ITE, DIVU, READ, WRITE, SEXT, extends, divides}
use Rattle.table.specs.Op.{by_op}
use Rattle.table.specs.Node.{given}
use Rattle.netlist.specs.Net.{Net}
use Rattle.netlist.specs.Bit.{is_known}
use Rattle.gates.specs.Made.{MadeBit, added, gate_input_bit}
use Rattle.digits.specs.Digits.{put_digits}
use Rattle.words.specs.declared.each.Bitwise.TheVariants as op
use Rattle.words.specs.Num.{blank}
use Rattle.words.specs.Each.{Word, each_bit, put_bits}
use Rattle.words.specs.Extend.{extended}
use Rattle.words.specs.Op.{op_word}
pub use Rattle.words.specs.Op.{as_is, fresh, of_chain}
use Rattle.memory.specs.Read.{read_words}
use Rattle.memory.specs.Write.{write_words}
use Rattle.division.specs.Constraint.{cons_of}
use Rattle.division.specs.Rows.{Checked}
use Rattle.division.specs.Divide.{divide_words}
use Rattle.visits.specs.Flow.{Core}
use Rattle.visits.specs.Stored.{stored}
use Rattle.nodes.specs.Source.{Source, listed, node_of, words_of, wide_of, bits_of, off_of, word_at, all_at, condition_of, second_of}

-- word i of node k is made: it goes to its place in the map
unfoldable pub word_step : Source → ℕ → (ℕ → Core → Word) → ℕ → Core → Core
word_step S k f i s = stored (off_of S k + i * wide_of S k) (wide_of S k) s (f i s).net (f i s).out

abbrev pub each_word : Source → ℕ → (ℕ → Core → Word) → Core → Core
each_word S k f s = iter (words_of S k) (word_step S k f) s

-- an input or uninitialised state makes one InputBit a bit
unfoldable pub input_step : ℕ → ℕ → ℕ → Word → Word
input_step k from j x =
    let m : MadeBit = added x.net (gate_input_bit k (from + j)) in
    record { net = m.net; out = set x.out j m.bit }

unfoldable pub input_word : Source → ℕ → ℕ → Core → Word
input_word S k i s = iter (wide_of S k) (input_step k (i * wide_of S k)) (fresh s.net)

-- an initialised state, a bad, an ext and a sext share their operand's bits; above them stand copies of the bit b
unfoldable pub share_word : Source → ℕ → ℕ → ℕ → Core → Word
share_word S b x i s = as_is s.net (extended b (wide_of S x) (word_at S s.map x i))

-- in a sext that is the operand's top bit, else known false
unfoldable pub above_of : Source → List ℕ → ℕ → ℕ
above_of S m k = pick (eqb (node_of S k).kind SEXT) (get_or (word_at S m (node_of S k).a 0) (wide_of S (node_of S k).a - 1) 0) 0

-- a choice by an unknown condition
unfoldable pub choose_word : Source → ℕ → ℕ → Core → Word
choose_word S k i s =
    each_bit (op.Choose (condition_of S s.map k)) (word_at S s.map (node_of S k).b i) (word_at S s.map (node_of S k).c i) (wide_of S k) (fresh s.net)

-- a read
unfoldable pub read_word : Source → ℕ → ℕ → Core → Word
read_word S k i s =
    read_words (listed S) S.word S.addrs (all_at S s.map (node_of S k).a) (word_at S s.map (node_of S k).b 0) (fresh s.net)

-- the other words: over the operands' bits A and B, which are v wide
unfoldable pub plain_word : Node → ℕ → List ℕ → List ℕ → Net → Word
plain_word d v A B s =
    pick (eqb d.kind CONST) (as_is s (put_digits d.imm d.width blank))
    (by_op d.kind (fresh s) (λ o. op_word o v A B s))

unfoldable pub word_own : Source → ℕ → ℕ → Core → Word
word_own S k i s =
    plain_word (node_of S k) (wide_of S (node_of S k).a) (word_at S s.map (node_of S k).a 0) (word_at S s.map (node_of S k).b 0) s.net

-- a write: the old memory is shared, and then written
unfoldable pub write_own : Source → ℕ → Core → Core
write_own S k s =
    let t : Core = each_word S k (share_word S 0 (node_of S k).a) s in
    let x : Word =
    write_words (listed S) S.word S.addrs (word_at S s.map (node_of S k).b 0) (word_at S s.map (node_of S k).c 0)
    (record { net = t.net; out = all_at S t.map k }) in
    stored (off_of S k) (bits_of S k) t x.net x.out

-- a division records its constraints
unfoldable pub divide_own : Source → ℕ → Core → Core
divide_own S k s =
    let x : Checked =
    divide_words (eqb (node_of S k).kind DIVU) (wide_of S k) k (word_at S s.map (node_of S k).a 0) (word_at S s.map (node_of S k).b 0)
    (record { net = s.net; cons = cons_of s.cons s.nc; out = blank }) in
    record { net = x.net; cons = x.cons.list; nc = x.cons.m; map = put_bits (off_of S k) x.out (wide_of S k) s.map }

-- an ite with a known condition shares the chosen side
unfoldable pub ite_own : Source → ℕ → Core → Core
ite_own S k s =
    pick (is_known (condition_of S s.map k)) (each_word S k (share_word S 0 (second_of S s.map k)) s)
    (each_word S k (choose_word S k) s)

-- a kind that shares its operand's bits: an initialised state, a bad, an ext, a sext
abbrev pub shares : Node → Bool
shares d = eqb d.kind STATE || eqb d.kind BAD || extends d.kind

-- the own step of node k, by its kind
unfoldable pub own_step : Source → ℕ → Core → Core
own_step S k s =
    pick (given (node_of S k)) (each_word S k (input_word S k) s)
    (pick (shares (node_of S k)) (each_word S k (share_word S (above_of S s.map k) (node_of S k).a) s)
    (pick (eqb (node_of S k).kind ITE) (ite_own S k s)
    (pick (divides (node_of S k).kind) (divide_own S k s)
    (pick (eqb (node_of S k).kind READ) (each_word S k (read_word S k) s)
    (pick (eqb (node_of S k).kind WRITE) (write_own S k s)
    (each_word S k (word_own S k) s))))))
