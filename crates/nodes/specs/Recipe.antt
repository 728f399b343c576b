-- What the visits take of a table.
use Rattle.std.specs.Prelude.{◌+◌}
use Rattle.table.specs.Node.{nodes, given}
use Rattle.visits.specs.Flow.{Recipe}
use Rattle.nodes.specs.Source.{Source, node_of, bits_of, off_of, total_of, gates_of, asks_of, first_of, second_of, third_of, bad_of}
use Rattle.nodes.specs.Own.{own_step}

abbrev pub recipe : Source → Recipe
recipe S =
    record {
      size = nodes S.table + 1;
      total = total_of S;
      bits = bits_of S;
      off = off_of S;
      gates = gates_of S;
      asks = asks_of S;
      first = first_of S;
      second = second_of S;
      third = third_of S;
      own = own_step S;
      given = λ k. given (node_of S k);
      bad = bad_of S;
    }
