use native.Mathlib.Omega.{arith}
use Rattle.words.proofs.Paths.{add-words-room}
use Rattle.words.proofs.add.add_words.Goals as goal

pub add_onto-requires : goal.add_onto-requires
add_onto-requires c = omega (arith, add-words-room c.args.left.now c.args.right.now c.args.list.now c.args.out.now _ c.args.w c.put_bits.ensures c.requires.w_in_bounds.2 c.args.carry)
