-- Instances of hypothetical clauses.
use Rattle.std.proofs.Common.{◌≡◌, ℕ, zero, suc, ◌+◌, ◌-◌, ◌<◌, ◌≤◌, ◌&&◌, not, List, [], ◌∷◌, ◌++◌, map, length, replicate, drop, get_or, slice_index, Bool, true, false, cond, nat_eq, nat_lt, Option, None, refl, sym, ap, ap₂, ◌∙◌, arith, subst, eqb-true, append-nil, append_assoc, lt-ltb, length-append, drop-cons}
use Rattle.std.proofs.lemmas.Bool.Decides.{nat_tests}
use Rattle.std.proofs.lemmas.List.{map-append}
use mathlib.Core.Path.{fun_ext}
use Rattle.ref_terms.specs.terms.Term as term
use Rattle.ref_terms.specs.terms.Term.{Term, Head, At, Name, Var}
use Rattle.ref_terms.specs.terms.Index.{sub, first}
use Rattle.ref_terms.specs.terms.Apply.{fill}
use Rattle.ref_terms.specs.terms.Ready.{ready}
use Rattle.ref_terms.specs.terms.Occurs.{is_name}
use Rattle.ref_terms.specs.unification.Spine.{args_of, apply_all}
use Rattle.ref_terms.specs.unification.Closing.{names_below, up_from}
use Rattle.ref_terms.specs.search.Assumption.{Assumption}
use Rattle.ref_terms.specs.search.Instance.{variable_under, fresh_for_parameter, parameter_instance}
use Rattle.level_terms.specs.declared.node.Node.TheVariants.{Var as VarNode}
use Rattle.level_terms.specs.declared.node.TermId.{TermId}
use Rattle.level_terms.specs.declared.node.VarId.{VarId}
use Rattle.level_terms.specs.Graph.{Graph, Assigned, value_in}
use Rattle.level_terms.specs.Growth.{Grows}
use Rattle.level_terms.specs.Reading.{read, levels, variable_reads}
use Rattle.level_terms.specs.Sound.{IsSound}
use Rattle.level_terms.specs.Valid.{IsValid}
use Rattle.level_terms.proofs.NodeLemmas.{nodes_read}
use Rattle.level_terms.proofs.UndoLemmas.{value_in-past}
use Rattle.level_terms.proofs.ValidLemmas.{nodes_valid, valid_deeper, growth_keeps_readings}
use Rattle.ref_terms.specs.lemmas.OccursLemmas.{fill_at}
use Rattle.level_terms.proofs.ReadLemmas.{read-built, valid-below}
use Rattle.beta_fragment.specs.Names.{names}
use Rattle.beta_fragment.specs.Firm.{IsPlain}
use Rattle.beta_fragment.specs.HeadForm.{IsHeadForm, IsAbstraction, all_read, AllValidAt, rigid_head}
use Rattle.beta_fragment.specs.Instantiation.{put_names, AllPlain}
use Rattle.beta_fragment.specs.declared.answer.Whnf.{Whnf}
use Rattle.beta_fragment.specs.declared.answer.Whnf.TheVariants.{Lam, Rigid, Flex, Redex}
use Rattle.beta_fragment.proofs.EnterLemmas.{names-places}
use Rattle.beta_fragment.proofs.HeadLemmas.{valid-grown_all, read-grown_all, valid-append}
use Rattle.hyp_clause.specs.Instances.{variables_from}
use Rattle.hyp_clause.specs.inside.Arguments.{form_args}
use Rattle.hyp_clause.proofs.NodeLemmas.{made-there}

-- the arguments of an application
app-args : (f a : Term) (xs : List Term) → args_of (apply_all (term.App f a) xs) ≡ args_of f ++ (a ∷ xs)
app-args f a [] = refl
app-args f a (x ∷ xs) = app-args (term.App f a) x xs ∙ append_assoc (args_of f) (a ∷ []) (x ∷ xs)

head-args : (h : Head) (xs : List Term) → args_of (apply_all (At h) xs) ≡ xs
head-args h [] = refl
head-args h (x ∷ xs) = app-args (At h) x xs

stuck-args : (u x : Term) (xs : List Term) → IsAbstraction u → ready x ≡ false → args_of (apply_all u (x ∷ xs)) ≡ x ∷ xs
stuck-args (term.Lam b) x xs w r =
    ap (λ (r : Bool). args_of (apply_all (cond r (sub (first x) b) (term.App (term.Lam b) x)) xs)) r ∙ app-args (term.Lam b) x xs
stuck-args (At h) x xs w r = absurd w
stuck-args (term.App f a) x xs w r = absurd w

no-args : (u : Term) → IsAbstraction u → [] ≡ args_of u
no-args (term.Lam b) w = refl
no-args (At h) w = absurd w
no-args (term.App f a) w = absurd w

-- of a form
pub form_args-read : (g : Graph) (depth : ℕ) (u : Term) (w : Whnf) → IsHeadForm g depth u w → all_read g (form_args w) ≡ args_of u
form_args-read g depth u (Lam t) h = no-args (read g t.index names) h.0.reads ∙ ap args_of (sym h.1)
form_args-read g depth u (Rigid k ts) h = sym (ap args_of h.1 ∙ head-args (rigid_head k) (all_read g ts))
form_args-read g depth u (Flex v ts) h = sym (ap args_of h.3 ∙ head-args (Var v.index) (all_read g ts))
form_args-read g depth u (Redex t []) h = absurd h.1
form_args-read g depth u (Redex t (a ∷ ts)) h = sym (ap args_of h.3 ∙ stuck-args (read g t.index names) (read g a.index names) (all_read g ts) h.0.reads h.1)

pub form_args-valid : (g : Graph) (depth : ℕ) (u : Term) (w : Whnf) → IsHeadForm g depth u w → AllValidAt g (form_args w) depth
form_args-valid g depth u (Lam t) h = tt
form_args-valid g depth u (Rigid k ts) h = h.0
form_args-valid g depth u (Flex v ts) h = h.2
form_args-valid g depth u (Redex t ts) h = h.2

-- variables are no abstractions
plain-app : (f a : Term) (xs : List Term) → IsPlain (apply_all (term.App f a) xs)
plain-app f a [] = tt
plain-app f a (x ∷ xs) = plain-app (term.App f a) x xs

plain-var : (v : ℕ) (xs : List Term) → IsPlain (apply_all (At (Var v)) xs)
plain-var v [] = tt
plain-var v (x ∷ xs) = plain-app (At (Var v)) x xs

pub variables-plain : (depth next n : ℕ) → AllPlain (variables_from depth next n)
variables-plain depth next zero = tt
variables-plain depth next (suc n) = (plain-var next (map (λ k. At (Name k)) (names_below depth)), variables-plain depth (suc next) n)

-- one more variable
pub variables-more : (depth next n : ℕ) → variables_from depth next (suc n) ≡ variables_from depth next n ++ variable_under depth (next + n) ∷ []
variables-more depth next zero = ap (λ v. variable_under depth v ∷ []) (let e : next ≡ next + 0 = omega arith in e)
variables-more depth next (suc n) =
    ap (λ (xs : List Term). variable_under depth next ∷ xs)
    (variables-more depth (suc next) n ∙ ap (λ v. variables_from depth (suc next) n ++ variable_under depth v ∷ []) (let e : suc next + n ≡ next + suc n = omega arith in e))

pub replicate-more : (n d : ℕ) → replicate (suc n) d ≡ replicate n d ++ d ∷ []
replicate-more zero d = refl
replicate-more (suc n) d = ap (λ (xs : List ℕ). d ∷ xs) (replicate-more n d)

-- what stands for a name
abbrev parameter_at : (depth next scope n k : ℕ) → Term
parameter_at depth next scope n k = cond (not (nat_lt k scope) && nat_lt k (scope + n)) (variable_under depth (next + (k - scope))) (At (Name k))

parameter-none : (depth next scope k : ℕ) → At (Name k) ≡ parameter_at depth next scope 0 k
parameter-none depth next scope k = sym (ap (λ b. cond b (variable_under depth (next + (k - scope))) (At (Name k))) (none (nat_lt k scope) refl))
  where
    none : (b : Bool) → nat_lt k scope ≡ b → (not (nat_lt k scope) && nat_lt k (scope + 0)) ≡ false
    none true e = rw e refl
    none false e = rw e (let f : nat_lt k (scope + 0) ≡ false = grind (arith, nat_tests) in f)

parameter-first : (depth next scope n k : ℕ) → scope ≡ k → variable_under depth next ≡ parameter_at depth next scope (suc n) k
parameter-first depth next scope n k e =
    let low : nat_lt k scope ≡ false = grind (arith, nat_tests) in
    let high : nat_lt k (scope + suc n) ≡ true = grind (arith, nat_tests) in
    let same : next ≡ next + (k - scope) = omega arith in
    rw (low, high) (ap (variable_under depth) same)

parameter-rest : (depth next scope n k : ℕ) → nat_eq scope k ≡ false → parameter_at depth (suc next) (suc scope) n k ≡ parameter_at depth next scope (suc n) k
parameter-rest depth next scope n k e = go (nat_lt k scope) refl
  where
    go : (b : Bool) → nat_lt k scope ≡ b → parameter_at depth (suc next) (suc scope) n k ≡ parameter_at depth next scope (suc n) k
    go true f =
        let later : nat_lt k (suc scope) ≡ true = grind (arith, nat_tests) in
        rw (f, later) refl
    go false f =
        let later : nat_lt k (suc scope) ≡ false = grind (arith, nat_tests) in
        let above : scope < k = grind (arith, nat_tests) in
        let number : suc next + (k - suc scope) ≡ next + (k - scope) = omega arith in
        let bound : suc scope + n ≡ scope + suc n = omega arith in
        rw (f, later, bound) (ap (λ v. cond (nat_lt k (scope + suc n)) (variable_under depth v) (At (Name k))) number)

put-name : (depth next scope n k : ℕ) → put_names scope (variables_from depth next n) (Name k) ≡ parameter_at depth next scope n k
put-name depth next scope zero k = parameter-none depth next scope k
put-name depth next scope (suc n) k = go (nat_eq scope k) refl (put-name depth (suc next) (suc scope) n k)
  where
    go : (b : Bool) → nat_eq scope k ≡ b → put_names (suc scope) (variables_from depth (suc next) n) (Name k) ≡ parameter_at depth (suc next) (suc scope) n k →
        cond (nat_eq scope k) (variable_under depth next) (put_names (suc scope) (variables_from depth (suc next) n) (Name k)) ≡ parameter_at depth next scope (suc n) k
    go true e w = rw e (parameter-first depth next scope n k (eqb-true scope k e))
    go false e w = rw e (w ∙ parameter-rest depth next scope n k e)

put-other : (h : Head) → ((x : ℕ) → is_name x h ≡ false) → (scope : ℕ) (xs : List Term) → put_names scope xs h ≡ At h
put-other h w scope [] = refl
put-other h w scope (x ∷ xs) = ap (λ b. cond b x (put_names (suc scope) xs h)) (w scope) ∙ put-other h w (suc scope) xs

-- the variables in the places of the names are the variables for the parameters
puts-fresh : (a : Assumption) (depth next : ℕ) (h : Head) → put_names a.scope (variables_from depth next a.parameters) h ≡ fresh_for_parameter a depth next h
puts-fresh a depth next (Name k) = put-name depth next a.scope a.parameters k
puts-fresh a depth next (term.Con c) = put-other (term.Con c) (λ x. refl) a.scope (variables_from depth next a.parameters)
puts-fresh a depth next (term.Int c) = put-other (term.Int c) (λ x. refl) a.scope (variables_from depth next a.parameters)
puts-fresh a depth next (term.Str c) = put-other (term.Str c) (λ x. refl) a.scope (variables_from depth next a.parameters)
puts-fresh a depth next (term.Bound c) = put-other (term.Bound c) (λ x. refl) a.scope (variables_from depth next a.parameters)
puts-fresh a depth next (Var c) = put-other (Var c) (λ x. refl) a.scope (variables_from depth next a.parameters)

pub instances-read : (a : Assumption) (depth next : ℕ) (puts ts : List Term) → puts ≡ variables_from depth next a.parameters → map (fill (put_names a.scope puts)) ts ≡ map (parameter_instance a depth next) ts
instances-read a depth next puts ts e = ap (λ (xs : List Term). map (fill (put_names a.scope xs)) ts) e ∙ ap (λ (r : Head → Term). map (fill r) ts) (fun_ext (puts-fresh a depth next))

-- a variable at its own names
levels-names : (d k : ℕ) → levels d (λ i. At (Name (k + i))) ≡ map (λ n. At (Name n)) (up_from k d)
levels-names zero k = refl
levels-names (suc d) k =
    let one : At (Name (k + 0)) ≡ At (Name k) = ap (λ n. At (Name n)) (let e : k + 0 ≡ k = omega arith in e) in
    ap₂ (λ (x : Term) (xs : List Term). x ∷ xs) one
    (ap (levels d) (fun_ext (λ i. ap (λ n. At (Name n)) (let e : k + suc i ≡ suc k + i = omega arith in e))) ∙ levels-names d (suc k))

levels-own : (d : ℕ) → levels d names ≡ map (λ n. At (Name n)) (names_below d)
levels-own d = ap (levels d) (fun_ext (λ i. ap (λ n. At (Name n)) (let e : i ≡ 0 + i = omega arith in e))) ∙ levels-names d 0

last-one : (xs : List ℕ) (x : ℕ) → slice_index (xs ++ x ∷ []) (length xs) ≡ x
last-one [] x = refl
last-one (y ∷ xs) x = last-one xs x

-- a new variable
pub record IsFreshVariable (g f h : Graph) (v : VarId) (t : TermId) (depth : ℕ) : Type 0 where
  pub sound : IsSound g
  pub sound_new : IsSound h
  pub number : v.index ≡ length g.depths
  pub made : f ≡ record g { depths = g.depths ++ depth ∷ [] }
  pub at : t.index ≡ length f.nodes
  pub node : h ≡ record f { nodes = VarNode v ∷ f.nodes }

fresh-depth : (g f h : Graph) (v : VarId) (t : TermId) (depth : ℕ) → IsFreshVariable g f h v t depth → slice_index h.depths v.index ≡ depth
fresh-depth g f h v t depth w = ap (λ (ds : List ℕ). slice_index ds v.index) (λ i. (w.node i).depths) ∙ ap₂ (λ (ds : List ℕ) (i : ℕ). slice_index ds i) (λ i. (w.made i).depths) w.number ∙ last-one g.depths depth

pub fresh-reads : (g f h : Graph) (v : VarId) (t : TermId) (depth : ℕ) → IsFreshVariable g f h v t depth → read h t.index names ≡ variable_under depth (length g.depths)
fresh-reads g f h v t depth w =
    let low : length g.depths ≤ v.index = (let e = w.number in omega arith) in
    let free : value_in h.assigned v.index ≡ None = ap (λ (bs : List Assigned). value_in bs v.index) (λ i. (w.node i).assigned) ∙ ap (λ (bs : List Assigned). value_in bs v.index) (λ i. (w.made i).assigned) ∙ value_in-past (length g.nodes) g.assigned (length g.depths) v.index w.sound.assigned low in
    nodes_read h t.index (VarNode v) names w.sound_new names-places (made-there f h (VarNode v) t.index w.at w.node)
    ∙ ap (λ (o : Option ℕ). variable_reads h v.index o names) free
    ∙ ap₂ (λ (d i : ℕ). apply_all (At (Var i)) (levels d names)) (fresh-depth g f h v t depth w) w.number
    ∙ ap (apply_all (At (Var (length g.depths)))) (levels-own depth)

pub fresh-valid : (g f h : Graph) (v : VarId) (t : TermId) (depth : ℕ) → IsFreshVariable g f h v t depth → IsValid h t.index depth
fresh-valid g f h v t depth w =
    nodes_valid h t.index (VarNode v) depth w.sound_new (made-there f h (VarNode v) t.index w.at w.node)
    ∙ (let e = fresh-depth g f h v t depth w in let lt : slice_index h.depths v.index < suc depth = omega arith in lt-ltb (slice_index h.depths v.index) (suc depth) lt)

-- nothing to put
pub none-put : (g : Graph) (t from : ℕ) (puts : List TermId) → length puts ≡ 0 → read g t names ≡ fill (put_names from (all_read g puts)) (read g t names)
none-put g t from [] e = sym (fill_at (read g t names) (read-built g t names))
none-put g t from (x ∷ xs) e = absurd (let k : suc (length xs) ≡ 0 = e in omega arith)

pub none-valid : (g : Graph) (t from to n : ℕ) → n ≡ 0 → from ≤ to → IsValid g t (from + n) → IsValid g t to
none-valid g t from to n e h w = valid_deeper g t (from + n) to w (omega arith)

-- the arguments of a form that a term has
pub args-found : (g h : Graph) (t depth : ℕ) (w : Whnf) (args : List TermId) → args ≡ form_args w → IsHeadForm h depth (read g t names) w → all_read h args ≡ args_of (read g t names)
args-found g h t depth w args e f = ap (all_read h) e ∙ form_args-read h depth (read g t names) w f

pub args-found_valid : (g h : Graph) (t depth : ℕ) (w : Whnf) (args : List TermId) → args ≡ form_args w → IsHeadForm h depth (read g t names) w → AllValidAt h args depth
args-found_valid g h t depth w args e f = subst (λ (ts : List TermId). AllValidAt h ts depth) (sym e) (form_args-valid h depth (read g t names) w f)

-- so many fresh variables
pub record AreFresh (old g : Graph) (depth : ℕ) (nodes : List TermId) (n : ℕ) : Type 0 where
  pub reads : all_read g nodes ≡ variables_from depth (length old.depths) n
  pub valid : AllValidAt g nodes depth
  pub count : length nodes ≡ n
  pub depths : g.depths ≡ old.depths ++ replicate n depth

pub fresh-none : (g : Graph) (depth : ℕ) (nodes : List TermId) → nodes ≡ [] → AreFresh g g depth nodes 0
fresh-none g depth nodes e = subst (λ (ts : List TermId). AreFresh g g depth ts 0) (sym e) (record { reads = refl; valid = tt; count = refl; depths = sym (append-nil g.depths) })

pub length-replicate : (n d : ℕ) → length (replicate n d) ≡ n
length-replicate zero d = refl
length-replicate (suc n) d = ap (λ k. suc k) (length-replicate n d)

pub fresh-more : (old g h : Graph) (depth : ℕ) (nodes new : List TermId) (n : ℕ) (t : TermId) → IsSound g → Grows g h [] [] → AreFresh old g depth nodes n → new ≡ nodes ++ t ∷ [] →
    read h t.index names ≡ variable_under depth (length g.depths) → IsValid h t.index depth → h.depths ≡ g.depths ++ depth ∷ [] → AreFresh old h depth new (n + 1)
fresh-more old g h depth nodes new n t s w before e reads valid depths =
    let up : suc n ≡ n + 1 = omega arith in
    let long : length g.depths ≡ length old.depths + n = ap length before.depths ∙ length-append old.depths (replicate n depth) ∙ ap (λ k. length old.depths + k) (length-replicate n depth) in
    subst (AreFresh old h depth new) up (record {
      reads =
          ap (all_read h) e ∙ map-append (λ (x : TermId). read h x.index names) nodes (t ∷ [])
          ∙ ap₂ (λ (xs : List Term) (x : Term). xs ++ x ∷ []) (read-grown_all g h depth s w nodes before.valid ∙ before.reads) (reads ∙ ap (variable_under depth) long)
          ∙ sym (variables-more depth (length old.depths) n);
      valid = subst (λ (ts : List TermId). AllValidAt h ts depth) (sym e) (valid-append h depth nodes (t ∷ []) (valid-grown_all g h depth s w nodes before.valid) (valid, tt));
      count = ap length e ∙ length-append nodes (t ∷ []) ∙ (let k = before.count in omega arith);
      depths = depths ∙ ap (λ (ds : List ℕ). ds ++ depth ∷ []) before.depths ∙ append_assoc old.depths (replicate n depth) (depth ∷ []) ∙ ap (λ (ds : List ℕ). old.depths ++ ds) (sym (replicate-more n depth));
    })

-- each node of a list
pub valid-at : (g : Graph) (d : ℕ) (ts : List TermId) (i : ℕ) (x : TermId) → AllValidAt g ts d → i < length ts → IsValid g (get_or ts i x).index d
valid-at g d [] i x w l = absurd (let k : i < 0 = l in omega (arith, k))
valid-at g d (t ∷ ts) zero x w l = w.0
valid-at g d (t ∷ ts) (suc i) x w l = valid-at g d ts i x w.1 (let k : suc i < suc (length ts) = l in omega (arith, k))

-- nodes that read as new variables are no abstractions
pub fresh-plain : (g : Graph) (depth next n : ℕ) (vs puts : List TermId) → puts ≡ vs → all_read g vs ≡ variables_from depth next n → AllPlain (all_read g puts)
fresh-plain g depth next n vs puts e fresh = subst AllPlain (sym (ap (all_read g) e ∙ fresh)) (variables-plain depth next n)

-- one more instance
pub record IsInstanced (old g : Graph) (r : Head → Term) (to : ℕ) (terms done : List TermId) (i : ℕ) : Type 0 where
  pub reads : all_read g done ++ map (fill r) (all_read old (drop i terms)) ≡ map (fill r) (all_read old terms)
  pub valid : AllValidAt g done to

pub instanced-none : (g : Graph) (r : Head → Term) (to : ℕ) (terms done : List TermId) → done ≡ [] → IsInstanced g g r to terms done 0
instanced-none g r to terms done e = subst (λ (ts : List TermId). IsInstanced g g r to terms ts 0) (sym e) (record { reads = refl; valid = tt })

pub instanced-more : (old g h : Graph) (r : Head → Term) (to : ℕ) (terms done new : List TermId) (i : ℕ) (x t : TermId) → IsSound g → Grows g h [] [] → IsInstanced old g r to terms done i → new ≡ done ++ t ∷ [] → i < length terms →
    read h t.index names ≡ fill r (read old (get_or terms i x).index names) → IsValid h t.index to → IsInstanced old h r to terms new (i + 1)
instanced-more old g h r to terms done new i x t s w before e lt reads valid =
    let up : suc i ≡ i + 1 = omega arith in
    subst (IsInstanced old h r to terms new) up (record {
      reads =
          ap (λ (xs : List Term). xs ++ map (fill r) (all_read old (drop (suc i) terms)))
          (ap (all_read h) e ∙ map-append (λ (y : TermId). read h y.index names) done (t ∷ []) ∙ ap₂ (λ (xs : List Term) (y : Term). xs ++ y ∷ []) (read-grown_all g h to s w done before.valid) reads)
          ∙ append_assoc (all_read g done) (fill r (read old (get_or terms i x).index names) ∷ []) (map (fill r) (all_read old (drop (suc i) terms)))
          ∙ ap (λ (ts : List TermId). all_read g done ++ map (fill r) (all_read old ts)) (sym (drop-cons terms i x lt))
          ∙ before.reads;
      valid = subst (λ (ts : List TermId). AllValidAt h ts to) (sym e) (valid-append h to done (t ∷ []) (valid-grown_all g h to s w done before.valid) (valid, tt));
    })

-- the arguments of a head over fresh variables
pub head-instance : (old one two new : Graph) (a : Assumption) (depth next head : ℕ) (vs ts puts args : List TermId) → IsSound one → Grows old one [] [] → Grows one two [] [] → IsSound old → (d : ℕ) → IsValid old head d → AllValidAt one vs depth →
    a.head ≡ read old head names → all_read one vs ≡ variables_from depth next a.parameters → all_read two ts ≡ args_of (read one head names) → puts ≡ vs → all_read new args ≡ map (fill (put_names a.scope (all_read two puts))) (all_read two ts) →
    all_read new args ≡ map (parameter_instance a depth next) (args_of a.head)
head-instance old one two new a depth next head vs ts puts args s w v s' d hv vv h fresh found e made =
    let same : all_read two puts ≡ variables_from depth next a.parameters = ap (all_read two) e ∙ read-grown_all one two depth s v vs vv ∙ fresh in
    made
    ∙ instances-read a depth next (all_read two puts) (all_read two ts) same
    ∙ ap (map (parameter_instance a depth next)) (found ∙ ap args_of (growth_keeps_readings old one head names s' w (valid-below old head d hv) ∙ sym h))
