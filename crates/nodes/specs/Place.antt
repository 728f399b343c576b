-- A node's words, one after the other, to their places in the bit map: what the code does over places alone.
use Rattle.std.specs.Prelude.{List, Bool, ℕ, ◌+◌, ◌*◌, get_or, length, take, drop}
use Rattle.loops.specs.Loop.{iter}
use Rattle.table.specs.declared.Node.{Node}
use Rattle.words.specs.declared.each.Bitwise.TheVariants as op
use Rattle.words.specs.Num.{blank}
use Rattle.words.specs.Each.{Word, each_bit, put_bits}
use Rattle.words.specs.Extend.{extended}
pub use Rattle.words.specs.Op.{in_front}
use Rattle.division.specs.Rows.{Checked}
use Rattle.division.specs.Divide.{divide_words}
use Rattle.memory.specs.Read.{read_words}
use Rattle.memory.specs.Write.{write_words}
use Rattle.nodes.specs.Own.{as_is, fresh, input_step, plain_word}

-- word i, of w bits, as f makes it of the net and the map: it goes to its place among those from `to` on
unfoldable pub placed : ℕ → ℕ → (ℕ → Word → Word) → ℕ → Word → Word
placed to w f i x = as_is (f i x).net (put_bits (to + i * w) (f i x).out w x.out)

-- the InputBits of word i
unfoldable pub inputs : ℕ → ℕ → ℕ → Word → Word
inputs node w i x = iter w (input_step node (i * w)) (fresh x.net)

-- a choice by the bit at place c between words i of those from a and from b on
unfoldable pub choices : ℕ → ℕ → ℕ → ℕ → ℕ → Word → Word
choices c a b w i x = each_bit (op.Choose (get_or x.out c 0)) (take w (drop (a + i * w) x.out)) (take w (drop (b + i * w) x.out)) w (fresh x.net)

-- word i of those from `from` on, v wide, shared by word i of those from `to` on, w wide; above it stand copies of the bit b
unfoldable pub share_at : ℕ → ℕ → ℕ → ℕ → ℕ → ℕ → List ℕ → List ℕ
share_at b from v to w i m = put_bits (to + i * w) (extended b v (take v (drop (from + i * v) m))) w m

-- the word of a node d that is neither given nor shared, a choice, a division or a read: its operands' bits stand from a and from b on, v wide
unfoldable pub plain_at : Node → ℕ → ℕ → ℕ → ℕ → Word → Word
plain_at d v a b to x =
    let y : Word = plain_word d v (take v (drop a x.out)) (take v (drop b x.out)) x.net in
    as_is y.net (put_bits to y.out d.width x.out)

-- the quotient or the remainder of the words from a and from b on, w wide: it goes to the places from `to` on
unfoldable pub divide_at : Bool → ℕ → ℕ → ℕ → ℕ → ℕ → Checked → Checked
divide_at quotient node w a b to x =
    let y : Checked = divide_words quotient w node (take w (drop a x.out)) (take w (drop b x.out)) (record { net = x.net; cons = x.cons; out = blank }) in
    record { net = y.net; cons = y.cons; out = put_bits to y.out w x.out }

-- what a memory has at an address: the memory's bits stand from mem on, the address's from adr on
unfoldable pub reading : List ℕ → ℕ → ℕ → ℕ → ℕ → Word → Word
reading addrs mem adr w i x = read_words (length addrs) w addrs (take (length addrs * w) (drop mem x.out)) (take w (drop adr x.out)) (fresh x.net)

-- a memory with a word written at an address: the old memory's bits stand from `old` on, and are shared by those from `to` on; address and value from adr and from val on
unfoldable pub write_at : List ℕ → ℕ → ℕ → ℕ → ℕ → ℕ → Word → Word
write_at addrs old adr val to w x =
    let m : List ℕ = iter (length addrs) (share_at 0 old w to w) x.out in
    let y : Word = write_words (length addrs) w addrs (take w (drop adr x.out)) (take w (drop val x.out)) (as_is x.net (take (length addrs * w) (drop to m))) in
    as_is y.net (put_bits to y.out (length addrs * w) m)
