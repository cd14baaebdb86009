-- Code over the nodes that it names, and instances of its clauses.
use Rattle.std.proofs.Common.{◌≡◌, subst, ℕ, ◌+◌, List, [], ◌∷◌, length, replicate, Result, Ok, Err, IfOk, Option, ap, ◌∙◌, arith, length-append}
use Rattle.std.proofs.lemmas.List.{length-replicate}
use Rattle.level_terms.specs.declared.node.Node.{Node}
use Rattle.level_terms.specs.declared.node.TermId.{TermId}
use Rattle.level_terms.specs.Graph.{Graph}
use Rattle.beta_fragment.specs.HeadForm.{AllValidAt}
use Rattle.ref_terms.specs.unification.Problem.{Binding}
use Rattle.ref_terms.specs.unification.Unification.{unify}
use Rattle.ref_terms.specs.search.Next.{next}
use Rattle.ref_terms.specs.search.Program.{Program, Clause}
use Rattle.clause_compile.specs.Instances as instances
use Rattle.clause_compile.specs.Instances.{IsHeadOf, IsBodyOf}
use Rattle.clause_compile.specs.Programs.{IsCode}
use Rattle.clause_compile.specs.declared.instance.Instance as head
use Rattle.clause_compile.specs.Bound.{AllValuesBuilt}
use Rattle.clause_compile.proofs.BoundLemmas.{body-bound}
use Rattle.search_moves.specs.Instances.{HaveBuiltValues, IsInstanceOf, IsBodyOver}
use Rattle.search_moves.specs.declared.machine.Event.{Event}
use Rattle.search_moves.specs.Machine as moves
use Rattle.search_moves.proofs.ListLemmas.{oldest-all}
use Rattle.goal_run.specs.declared.code.ProgramCode.{ProgramCode}
use Rattle.goal_run.specs.inside.Code.{Stands, IsCodeFor, IsLaidOut}

-- a heap with these nodes alone
abbrev heap_with : List Node → Graph
heap_with ns = record { nodes = ns; depths = []; assigned = [] }

-- there the code is that of the program
pub some-code : (ns : List Node) (c : ProgramCode) (p : Program) → (w : Stands ns c p) → IsCode w.shared (heap_with ns) c.code p
some-code ns c p w = w.code (length ns) (heap_with ns) (omega arith) (oldest-all ns)

-- without its shapes and its index
pub bare-code : (ns : List Node) (c : ProgramCode) (p : Program) → Stands ns c p → IsCodeFor ns c.code p
bare-code ns c p w = record { shared = w.shared; means = w.code }

-- and with them, where these are the code's
pub laid-out : (ns : List Node) (c : ProgramCode) (p : Program) → IsLaidOut c → IsCodeFor ns c.code p → Stands ns c p
laid-out ns c p laid w =
    let is = w.means (length ns) (heap_with ns) (omega arith) (oldest-all ns) in
    record {
      shared = w.shared;
      code = w.means;
      shapes = laid.shapes w.shared (heap_with ns) p is;
      index = laid.index w.shared (heap_with ns) p is;
    }

-- a move of the search is one of the machine that has it
pub moved-for : (a b after : moves.Machine) (p : Program) (e : Event) → a ≡ b → moves.HasMoved p (next unify p (moves.state_of p a)) e after → moves.HasMoved p (next unify p (moves.state_of p b)) e after
moved-for a b after p e same w = subst (λ (m : moves.Machine). moves.HasMoved p (next unify p (moves.state_of p m)) e after) same w

pub if-ok : {T E : Type 0} (r : Result T E) (P Q : T → Type 0) → ((x : T) → P x → Q x) → IfOk r P → IfOk r Q
if-ok (Ok x) P Q f h = f x h
if-ok (Err e) P Q f h = tt

-- both crates say the same of nodes that are valid
pub same-valid : (g : Graph) (ts : List TermId) (depth : ℕ) → instances.AllValidAt g ts depth → AllValidAt g ts depth
same-valid g [] depth v = tt
same-valid g (t ∷ ts) depth v = (v.0, same-valid g ts depth v.1)

pub valid-same : (g : Graph) (ts : List TermId) (depth : ℕ) → AllValidAt g ts depth → instances.AllValidAt g ts depth
valid-same g [] depth v = tt
valid-same g (t ∷ ts) depth v = (v.0, valid-same g ts depth v.1)

-- both crates say the same of values that are built
values-same : (bs : List Binding) → HaveBuiltValues bs → AllValuesBuilt bs
values-same [] w = tt
values-same (b ∷ older) w = (w.0, values-same older w.1)

-- the head of a clause, with its variables
pub head-made : (k : Clause) (d : ℕ) (f g : Graph) (made : head.Instance) → IsHeadOf k d f g made → IsInstanceOf k d f g (record { heads = made.args; variables = made.variables })
head-made k d f g made a = record {
  head = record {
    heads = a.args;
    variables = ap length a.depths ∙ length-append f.depths (replicate k.variables d) ∙ ap (λ n. length f.depths + n) (length-replicate k.variables d);
    heads_valid = same-valid g made.args.items d a.valid;
  };
  count = a.fresh.count;
  reads = λ v l. a.fresh.reads v (omega (arith, l, a.fresh.count));
  valid = same-valid g made.variables.items d a.fresh.valid;
}

-- the body of a clause over its variables
pub body-made : (k : Clause) (d : ℕ) (g h : Graph) (made : head.Instance) (body : Option TermId) → IsBodyOf k g h made body → IsBodyOver k d made.variables.items g h body
body-made k d g h made body b = λ bs next w reads. body-bound k g h made body bs d next b (values-same bs w) reads
