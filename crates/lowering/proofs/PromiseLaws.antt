-- From the answer the demands follow: what the entry point promises.
use Rattle.std.specs.Prelude.{Result, Ok, Err}
use mathlib.Core.Path.{◌≡◌, refl, ap, sym, ◌∙◌, subst}
use mathlib.Core.List.{List, [], ◌++◌}
use mathlib.Core.Bool.{true}
use Prim.Native.Nat.{ℕ, suc, ◌+◌, ◌≤◌, ◌<◌}
use lib.Dec.{ltb}
use lib.ListN.{length, take, drop}
use lib.Seq.{take-append_seam}
use borrow.Author.Tests.{ltb-false}
use Rattle.loops.proofs.Loop.{by-pick, iter-inv}
use Rattle.table.specs.Sheet.{table_fault, by_fault, asks}
use Rattle.table.specs.declared.Fault.{Fault}
use Rattle.netlist.specs.Record.{records}
use Rattle.values.specs.Eval.{eval_words}
use Rattle.visits.specs.Flow.{Core, Low, root_step, lower_to}
use Rattle.visits.specs.Claims.{Is, Lowered, Small}
use Rattle.visits.proofs.Later.{Sound, sound-later, visit-later}
use Rattle.visits.proofs.Roots.{start-sound}
use Rattle.lowering.specs.declared.lower.Refusal.TheVariants.{Table}
use Rattle.nodes.specs.Source.{Source, total_of, gates_of}
use Rattle.nodes.specs.Own.{own_step}
use Rattle.nodes.specs.Recipe.{recipe}
use Rattle.lowering.specs.Lower.{Answer, counted, Run, run, start, lowered, sums, con_records, ended, lower_clear, lower_asked, lower_all, Accepted, number}
use Rattle.nodes.specs.Meaning.{meaning}
use Rattle.lowering.specs.Promise.{said, Right, Promise}
use Rattle.nodes.proofs.ShapeLaws.{shape}
use Rattle.lowering.proofs.StartLaws.{starts}
use Rattle.lowering.proofs.SmallLaws as demand3
use Rattle.lowering.proofs.RightLower as demand2
use Rattle.lowering.proofs.VisitFacts.{own-steps}

-- a lowering that was done: the table was accepted, and this is what the buffers hold
pub record Finished (S : Source) (g c m : List ℕ) (n k : ℕ) (r : Run) : Type 0 where
  pub accepted : Accepted S g c m
  pub count : (lowered S g c).core.net.n ≡ n
  pub asks : (lowered S g c).core.nc ≡ k
  pub gates : r.gates ≡ (lowered S g c).core.net.gates
  pub cons : r.cons ≡ (lowered S g c).core.cons
  pub map : r.map ≡ (lowered S g c).core.map ++ drop (total_of S) m

-- the counts of an answer
gates_in : Answer → ℕ
gates_in (Ok d) = d.gates
gates_in (Err e) = 0

constraints_in : Answer → ℕ
constraints_in (Ok d) = d.constraints
constraints_in (Err e) = 0

module _ (S : Source) (g c m : List ℕ) (n k : ℕ) where
  abbrev pub Ends : Run → Type 0
  Ends r = r.answer ≡ Ok (counted n k) → Finished S g c m n k r

  finished-end : Accepted S g c m → Ends (ended S m (lowered S g c))
  unfolding ended gates_in constraints_in
  finished-end a e =
      record { accepted = a; count = ap gates_in e; asks = ap constraints_in e; gates = refl; cons = refl; map = refl }

  finished-clear : table_fault S.table S.addrs S.word ≡ Ok tt → asks S.table ≡ true → Ends (lower_clear S g c m)
  unfolding lower_clear
  finished-clear clear asked =
      by-pick Ends (ltb (records g) (sums S).gates) _ _ (λ _ e. cc)
      (λ a. by-pick Ends (ltb (length m) (sums S).map) _ _ (λ _ e. cc)
      (λ b. by-pick Ends (ltb (con_records c) (sums S).constraints) _ _ (λ _ e. cc)
      (λ d. finished-end (record {
        clear = clear;
        asked = asked;
        gates = ltb-false (records g) (sums S).gates a;
        map = ltb-false (length m) (sums S).map b;
        constraints = ltb-false (con_records c) (sums S).constraints d;
      }))))

  finished-asked : table_fault S.table S.addrs S.word ≡ Ok tt → Ends (lower_asked S g c m)
  unfolding lower_asked
  finished-asked clear = by-pick Ends (asks S.table) _ _ (finished-clear clear) (λ _ e. cc)

  finished-checked : (r : Result Unit Fault) → r ≡ table_fault S.table S.addrs S.word → Ends (by_fault r (lower_asked S g c m) (λ f. run (Err (Table f)) g c m))
  finished-checked (Ok u) h e = finished-asked (sym h) e
  finished-checked (Err f) h e = cc

  pub finished : Ends (lower_all S g c m)
  unfolding lower_all
  finished = finished-checked (table_fault S.table S.addrs S.word) refl

-- the map keeps its length
module _ (S : Source) (g c m : List ℕ) (a : Accepted S g c m) where
  sound-step : (i : ℕ) (t : Low) → i < (recipe S).size → Sound (recipe S) t → Sound (recipe S) (root_step (recipe S) i t)
  unfolding root_step
  sound-step i t lt d = by-pick (Sound (recipe S)) _ _ _ (λ _. sound-later d (visit-later (shape S a.clear) (own-steps S a.clear) (suc i) i t d lt)) (λ _. d)

  sound-all : Sound (recipe S) (lowered S g c)
  unfolding lower_to
  sound-all = iter-inv (λ _ t. Sound (recipe S) t) (root_step (recipe S)) (start S g c) (recipe S).size (start-sound (starts S g c a.gates a.constraints)) sound-step

-- what the buffers then say is what the visits made
module _ (S : Source) (g c m : List ℕ) (n k : ℕ) (g' c' m' : List ℕ) (a : Answer) (f : Finished S g c m n k (run a g' c' m')) where
  map_back : take (total_of S) m' ≡ (lowered S g c).core.map
  map_back =
      ap (take (total_of S)) f.map
      ∙ (ap (λ (i : ℕ). take i ((lowered S g c).core.map ++ drop (total_of S) m)) (sym (sound-all S g c m f.accepted).mapped) ∙ take-append_seam (lowered S g c).core.map (drop (total_of S) m))

  said-core : (said S g' c' m' n k []).core ≡ (lowered S g c).core
  said-core =
      rw (f.gates, f.cons, map_back, ← f.count, ← f.asks)

  finished-right : Right S (said S g' c' m' n k [])
  finished-right v e =
      let t : Lowered (recipe S) (meaning S (eval_words S.table S.addrs S.word v).values) (lowered S g c) = demand2.right S g c m f.accepted v e in
      subst (λ (x : Core). Lowered (recipe S) (meaning S (eval_words S.table S.addrs S.word v).values) (record { core = x; seen = [] })) (sym said-core)
      (record { right = t.right; exists = t.exists; one = t.one })

  finished-small : (z : List ℕ) × Small (recipe S) (start S g c) (said S g' c' m' n k z)
  finished-small = (
    (lowered S g c).seen,
    subst (λ (x : Core). Small (recipe S) (start S g c) (record { core = x; seen = (lowered S g c).seen })) (sym said-core) (demand3.small S g c m f.accepted),
  )

-- each node adds at most its ceiling
each : (S : Source) → table_fault S.table S.addrs S.word ≡ Ok tt → (j : ℕ) (s : Core) → Is (recipe S) j → length s.map ≡ total_of S → (own_step S j s).net.n ≤ s.net.n + gates_of S j
each S clear j s is mapped = (own-steps S clear j s is mapped).frame.grows.upto

pub promise : (S : Source) (g c m : List ℕ) (a : Answer) (g' c' m' : List ℕ) → run a g' c' m' ≡ lower_all S g c m → Promise S g c m a g' c' m'
promise S g c m a g' c' m' e =
    record {
      answer = e;
      right = λ n k h. finished-right S g c m n k g' c' m' a (held n k h);
      small =
          record {
            made = λ n k h. finished-small S g c m n k g' c' m' a (held n k h);
            done = λ h. ap (λ (r : Run). number r.answer) e ∙ ap number (demand3.done S g c m h);
            each = each S;
          };
    }
  where
    held : (n k : ℕ) → a ≡ Ok (counted n k) → Finished S g c m n k (run a g' c' m')
    held n k h = subst (λ (r : Run). Ends S g c m n k r) (sym e) (finished S g c m n k) h
