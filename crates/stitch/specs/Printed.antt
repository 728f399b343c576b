-- What the program prints, as document 01's "The program" has it: bytes in, bytes out.
use Rattle.std.specs.Prelude.{List, true, false, ℕ, ◌+◌, ◌*◌, take, replicate, Ok, Err}
use Rattle.table.specs.declared.Unit.TheVariants.{Bit}
use Rattle.table.specs.Node.{nodes}
use Rattle.table.specs.Size.{offsets_into}
use Rattle.netlist.specs.Record.{used}
use Rattle.text.specs.Plain.{Plain, plain_text}
use Rattle.text.specs.Plain.Plain.{plain}
use Rattle.text.specs.Read.{flat}
use Rattle.text.specs.Write.{constraint_size, output, refused_line}
use Rattle.nodes.specs.Source.{Source, source, listed, total_of}
use Rattle.lowering.specs.Lower.{Answer, number, node, Run, lowered, lower_all}

-- "up to 4,096 gates, 16,384 map places, 8,192 constraints"; a table has at most 64 addresses and 512 nodes
abbrev pub GATES : ℕ
GATES = 4096

abbrev pub PLACES : ℕ
PLACES = 16384

abbrev pub CONSTRAINTS : ℕ
CONSTRAINTS = 8192

abbrev pub ADDRS : ℕ
ADDRS = 64

abbrev pub NODES : ℕ
NODES = 512

-- a buffer of n places, all zero. It stays shut, so that no proof writes its places out
unfoldable pub cleared : ℕ → List ℕ
cleared n = replicate n 0

-- the buffers that the program lends to the lowering
abbrev pub gate_buffer : List ℕ
gate_buffer = cleared (used GATES)

abbrev pub constraint_buffer : List ℕ
constraint_buffer = cleared (constraint_size * CONSTRAINTS)

abbrev pub bit_map : List ℕ
bit_map = cleared PLACES

-- the offset of each node at its number; the last is where the bits end
unfoldable pub offset_list : Source → List ℕ
offset_list S = offsets_into Bit S.table (listed S) S.word (cleared (nodes S.table + 2))

-- a lowering that is done, by the used parts g and c of its lists, and the whole map and marks
abbrev pub done_output : Source → List ℕ → List ℕ → List ℕ → List ℕ → List ℕ
done_output S g c m z = output g (take (total_of S) m) (offset_list S) (take (nodes S.table + 1) z) c

-- a lowering that is done: n gates, k constraints, in the buffers g, c and m; z has a mark at each reached node
unfoldable pub done_lines : Source → ℕ → ℕ → List ℕ → List ℕ → List ℕ → List ℕ → List ℕ
done_lines S n k g c m z = output (take (used n) g) (take (total_of S) m) (offset_list S) z (take (constraint_size * k) c)

-- "a refusal is one line only: `refused`, number, node"
unfoldable pub refusal : Answer → List ℕ
refusal a = refused_line (number a) (node a)

unfoldable pub answer_lines : Source → List ℕ → List ℕ → List ℕ → List ℕ → Answer → List ℕ
answer_lines S g c m z (Ok d) = done_lines S d.gates d.constraints g c m z
answer_lines S g c m z (Err f) = refusal (Err f)

-- what the lowering of a table answered and left in its buffers
unfoldable pub run_lines : Source → List ℕ → Run → List ℕ
run_lines S z r = answer_lines S r.gates r.cons r.map z r.answer

unfoldable pub table_lines : Source → List ℕ
table_lines S = run_lines S (lowered S gate_buffer constraint_buffer).seen (lower_all S gate_buffer constraint_buffer bit_map)

-- "a line outside these forms prints `refused`, 1, 0"
unfoldable pub plain_lines : Plain → List ℕ
plain_lines (plain true w xs ns) = table_lines (source (flat ns) (flat xs) w)
plain_lines (plain false w xs ns) = refused_line 1 0

unfoldable pub printed : List ℕ → List ℕ
printed x = plain_lines (plain_text ADDRS NODES x)

-- bytes that are always enough: the room that text's `write` asks for at these limits, as its proofs have it
abbrev pub ROOM : ℕ
ROOM = 750639
