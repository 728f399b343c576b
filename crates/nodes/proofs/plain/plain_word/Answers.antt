use borrow.Author.Rules.{rules}
use mathlib.Core.Path.{refl}
use native.Mathlib.Omega.{arith}
use Rattle.words.proofs.EachLaws.{nots-cost, ands-cost, ors-cost}
use Rattle.words.proofs.EqLaws.{eq-three}
use Rattle.words.proofs.AddLaws.{cost-three}
use Rattle.words.proofs.SubLaws.{sub-four}
use Rattle.digits.specs.Op.{op_not, op_and, op_or, op_eq, op_add, op_sub, op_ult, op_mul, op_sll, op_srl, shift_gates, op_gates}
use Rattle.words.specs.Op.{op_into}
use Rattle.nodes.proofs.Paths.{blank-room, plain_op, plain-none, bit-put, chain-put}
use Rattle.table.proofs.ceiling.ByKind.{top-op}
use Rattle.nodes.proofs.plain.plain_word.Goals as goal

pub each_bit-requires : goal.each_bit-requires
unfolding op_gates shift_gates
each_bit-requires c = omega (arith, blank-room _ c.requires.le_v.4, nots-cost c.args.a.now c.args.v, top-op 0 0 c.args.node c.args.v op_not c.in-4.is)

pub each_bit-requires-in-6 : goal.each_bit-requires-in-6
unfolding op_gates shift_gates
each_bit-requires-in-6 c = omega (arith, blank-room _ c.requires.le_v.4, ands-cost c.args.a.now c.args.b.now c.args.v, top-op 0 0 c.args.node c.args.v op_and c.in-6.is)

pub each_bit-requires-in-18 : goal.each_bit-requires-in-18
unfolding op_gates shift_gates
each_bit-requires-in-18 c = omega (arith, blank-room _ c.requires.le_v.4, ors-cost c.args.a.now c.args.b.now c.args.v, top-op 0 0 c.args.node c.args.v op_or c.in-18.is)

pub eq_words-requires : goal.eq_words-requires
unfolding op_gates shift_gates
eq_words-requires c = omega (arith, blank-room _ c.requires.le_v.4, eq-three c.args.a.now c.args.b.now c.args.v c.requires.le_v.0, top-op 0 0 c.args.node c.args.v op_eq c.in-8.is)

pub ult_words-requires : goal.ult_words-requires
unfolding op_gates shift_gates
ult_words-requires c = omega (arith, blank-room _ c.requires.le_v.4, top-op 0 0 c.args.node c.args.v op_ult c.in-12.is)

pub add_words-requires : goal.add_words-requires
unfolding op_gates shift_gates
add_words-requires c = omega (arith, blank-room _ c.requires.le_v.4, cost-three c.args.a.now c.args.b.now c.args.v, top-op 0 0 c.args.node c.args.v op_add c.in-9.is)

pub sub_words-requires : goal.sub_words-requires
unfolding op_gates shift_gates
sub_words-requires c = omega (arith, blank-room _ c.requires.le_v.4, sub-four c.args.a.now c.args.b.now c.args.v, top-op 0 0 c.args.node c.args.v op_sub c.in-11.is)

pub mul_words-requires : goal.mul_words-requires
unfolding op_gates shift_gates
mul_words-requires c = omega (arith, blank-room _ c.requires.le_v.4, top-op 0 0 c.args.node c.args.v op_mul c.in-13.is)

pub shift_words-requires : goal.shift_words-requires
unfolding op_gates shift_gates
shift_words-requires c = omega (arith, blank-room _ c.requires.le_v.4, top-op 0 0 c.args.node c.args.v op_sll c.in-20.is)

pub shift_words-requires-in-21 : goal.shift_words-requires-in-21
unfolding op_gates shift_gates
shift_words-requires-in-21 c = omega (arith, blank-room _ c.requires.le_v.4, top-op 0 0 c.args.node c.args.v op_srl c.in-21.is)

pub returns-in-4-clause-made : goal.returns-in-4-clause-made
unfolding op_into
returns-in-4-clause-made c = plain_op _ _ _ _ _ _ _ c.requires.le_v.4 op_not c.in-4.is c.each_bit.ensures.made

pub returns-in-6-clause-made : goal.returns-in-6-clause-made
unfolding op_into
returns-in-6-clause-made c = plain_op _ _ _ _ _ _ _ c.requires.le_v.4 op_and c.in-6.is c.each_bit-in-6.ensures.made

pub returns-in-18-clause-made : goal.returns-in-18-clause-made
unfolding op_into
returns-in-18-clause-made c = plain_op _ _ _ _ _ _ _ c.requires.le_v.4 op_or c.in-18.is c.each_bit-in-18.ensures.made

pub bounds-out-0 : goal.bounds-out-0
bounds-out-0 c = omega (arith, blank-room _ c.requires.le_v.4)

pub returns-in-8-clause-made : goal.returns-in-8-clause-made
unfolding op_into
returns-in-8-clause-made c = plain_op _ _ _ _ _ _ _ c.requires.le_v.4 op_eq c.in-8.is (bit-put c.eq_words.new.list _ _ _ c.eq_words.ensures.made)

pub bounds-out-0-in-12 : goal.bounds-out-0-in-12
bounds-out-0-in-12 c = omega (arith, blank-room _ c.requires.le_v.4)

pub returns-in-12-clause-made : goal.returns-in-12-clause-made
unfolding op_into
returns-in-12-clause-made c = plain_op _ _ _ _ _ _ _ c.requires.le_v.4 op_ult c.in-12.is (bit-put c.ult_words.new.list _ _ _ c.ult_words.ensures.made)

pub returns-in-9-clause-made : goal.returns-in-9-clause-made
unfolding op_into
returns-in-9-clause-made c = plain_op _ _ _ _ _ _ _ c.requires.le_v.4 op_add c.in-9.is (chain-put c.add_words.new.list _ _ _ c.add_words.ensures.made)

pub returns-in-11-clause-made : goal.returns-in-11-clause-made
unfolding op_into
returns-in-11-clause-made c = plain_op _ _ _ _ _ _ _ c.requires.le_v.4 op_sub c.in-11.is (chain-put c.sub_words.new.list _ _ _ c.sub_words.ensures.made)

pub returns-in-13-clause-made : goal.returns-in-13-clause-made
unfolding op_into
returns-in-13-clause-made c = plain_op _ _ _ _ _ _ _ c.requires.le_v.4 op_mul c.in-13.is c.mul_words.ensures.made

pub returns-in-20-clause-made : goal.returns-in-20-clause-made
unfolding op_into
returns-in-20-clause-made c = plain_op _ _ _ _ _ _ _ c.requires.le_v.4 op_sll c.in-20.is c.shift_words.ensures.made

pub returns-in-21-clause-made : goal.returns-in-21-clause-made
unfolding op_into
returns-in-21-clause-made c = plain_op _ _ _ _ _ _ _ c.requires.le_v.4 op_srl c.in-21.is c.shift_words-in-21.ensures.made

pub returns-in_default-clause-made : goal.returns-in_default-clause-made
returns-in_default-clause-made c =
    plain-none _ _ _ _ _ _ _ c.requires.le_v.4 c.requires.kind.0 (search rules) (search rules) (search rules) (search rules) (search rules) (search rules) (search rules) (search rules) (search rules) (search rules) refl
