-- Readings under substitutions of ready terms.
use Rattle.std.proofs.Common.{◌≡◌, ℕ, zero, suc, List, [], ◌∷◌, map, length, cond, nat_eq, Bool, true, false, slice_index, refl, sym, ap, ap₂, ◌∙◌}
use mathlib.Core.Path.{fun_ext}
use Rattle.level_terms.specs.declared.node.Node.{Node}
use Rattle.level_terms.specs.declared.node.Node.TheVariants.{Con, Int, Str, Level, Lam, App, Var}
use Rattle.level_terms.specs.declared.node.TermId.{TermId}
use Rattle.level_terms.specs.Layer.{layer_of}
use Rattle.level_terms.specs.Reading.{layer_term, levels, node_term, closed_term, enter}
use Rattle.ref_terms.specs.unification.Spine.{apply_all}
use Rattle.ref_terms.specs.terms.Term as term
use Rattle.ref_terms.specs.terms.Term.{Term}
use Rattle.ref_terms.specs.terms.Index.{sub, under, first, shift, next}
use Rattle.ref_terms.specs.terms.Eta.{lam}
use Rattle.ref_terms.specs.terms.Ready.{ready}
use Rattle.ref_terms.specs.terms.Apply.{apply}
use Rattle.ref_terms.specs.terms.Built.{IsBuilt}
use Rattle.ref_terms.specs.lemmas.TermLemmas.{sub-ren, ren-sub, sub_id}
use Rattle.ref_terms.specs.lemmas.EtaLemmas.{sub-lam}
use Rattle.ref_terms.specs.lemmas.ApplyLemmas.{AllReady, ready-under, ready-first, sub-apply}
use Rattle.ref_terms.specs.lemmas.FillLemmas.{apply-lam}

-- a term for each choice of what the levels stand for
abbrev pub Reader : Type 0
Reader = (ℕ → Term) → Term

-- a reader that substitution goes through
abbrev pub Follows : Reader → Type 0
Follows r = (s : ℕ → Term) → AllReady s → (env : ℕ → Term) → sub s (r env) ≡ r (λ i. sub s (env i))

sub-enter : (s : ℕ → Term) (d : ℕ) (env : ℕ → Term) (i : ℕ) → sub (under s) (enter d env i) ≡ enter d (λ k. sub s (env k)) i
sub-enter s d env i = go (nat_eq d i)
  where
    go : (b : Bool) → sub (under s) (cond b (term.At (term.Bound 0)) (shift (env i))) ≡ cond b (term.At (term.Bound 0)) (shift (sub s (env i)))
    go true = refl
    go false = sub-ren (under s) next (env i) ∙ sym (ren-sub next s (env i))

sub-apply_all : (s : ℕ → Term) → AllReady s → (t : Term) (xs : List Term) → sub s (apply_all t xs) ≡ apply_all (sub s t) (map (sub s) xs)
sub-apply_all s h t [] = refl
sub-apply_all s h t (x ∷ xs) = sub-apply_all s h (apply t x) xs ∙ ap (λ u. apply_all u (map (sub s) xs)) (sub-apply s h t x)

sub-levels : (s : ℕ → Term) (d : ℕ) (env : ℕ → Term) → map (sub s) (levels d env) ≡ levels d (λ i. sub s (env i))
sub-levels s zero env = refl
sub-levels s (suc d) env = ap (λ xs. sub s (env 0) ∷ xs) (sub-levels s d (λ i. env (suc i)))

sub-parts : (s : ℕ → Term) → AllReady s → (f : ℕ → Reader) → ((k : ℕ) → Follows (f k)) → (env : ℕ → Term) (ts : List TermId) → map (sub s) (map (λ r. r env) (map (λ t. f t.index) ts)) ≡ map (λ r. r (λ i. sub s (env i))) (map (λ t. f t.index) ts)
sub-parts s h f w env [] = refl
sub-parts s h f w env (t ∷ ts) = ap₂ (λ (x : Term) (xs : List Term). x ∷ xs) (w t.index s h env) (sub-parts s h f w env ts)

node-follows : (depths : List ℕ) (f : ℕ → Reader) → ((k : ℕ) → Follows (f k)) → (n : Node) → Follows (layer_term depths (layer_of f n))
node-follows depths f w (Con c) s h env = refl
node-follows depths f w (Int c) s h env = refl
node-follows depths f w (Str c) s h env = refl
node-follows depths f w (Level l) s h env = refl
node-follows depths f w (Lam d b) s h env = sub-lam s (f b.index (enter d env)) ∙ ap lam (w b.index (under s) (ready-under s h) (enter d env) ∙ ap (f b.index) (fun_ext (sub-enter s d env)))
node-follows depths f w (App t ts) s h env = sub-apply_all s h (f t.index env) (map (λ r. r env) (map (λ k. f k.index) ts)) ∙ ap₂ apply_all (w t.index s h env) (sub-parts s h f w env ts)
node-follows depths f w (Var v) s h env = sub-apply_all s h (term.At (term.Var v.index)) (levels (slice_index depths v.index) env) ∙ ap (apply_all (term.At (term.Var v.index))) (sub-levels s (slice_index depths v.index) env)

follows-cond : (b : Bool) (r q : Reader) → Follows r → Follows q → Follows (cond b r q)
follows-cond true r q v w = v
follows-cond false r q v w = w

pub node_term-follows : (nodes : List Node) (depths : List ℕ) (t : ℕ) → Follows (node_term nodes depths t)
node_term-follows [] depths t = λ s h env. refl
node_term-follows (n ∷ older) depths t = follows-cond (nat_eq (length older) t) _ _ (node-follows depths (node_term older depths) (node_term-follows older depths) n) (node_term-follows older depths t)

pub closed_term-follows : (nodes : List Node) (depths : List ℕ) (d k t : ℕ) → Follows (closed_term nodes depths d k t)
closed_term-follows nodes depths d zero t s h env = node_term-follows nodes depths t s h env
closed_term-follows nodes depths d (suc k) t s h env = sub-lam s (closed_term nodes depths (suc d) k t (enter d env)) ∙ ap lam (closed_term-follows nodes depths (suc d) k t (under s) (ready-under s h) (enter d env) ∙ ap (closed_term nodes depths (suc d) k t) (fun_ext (sub-enter s d env)))

-- the levels, with a term at one of them
abbrev pub at_level : ℕ → Term → (ℕ → Term) → ℕ → Term
at_level d x env i = cond (nat_eq d i) x (env i)

entered : (d : ℕ) (x : Term) (env : ℕ → Term) (i : ℕ) → sub (first x) (enter d env i) ≡ at_level d x env i
entered d x env i = go (nat_eq d i)
  where
    go : (b : Bool) → sub (first x) (cond b (term.At (term.Bound 0)) (shift (env i))) ≡ cond b x (env i)
    go true = refl
    go false = sub-ren (first x) next (env i) ∙ sub_id (env i)

-- a value applied to one of its levels
pub closed_term-apply : (nodes : List Node) (depths : List ℕ) (d k t : ℕ) (env : ℕ → Term) (x : Term) → ready x ≡ true → IsBuilt (closed_term nodes depths (suc d) k t (enter d env)) → apply (closed_term nodes depths d (suc k) t env) x ≡ closed_term nodes depths (suc d) k t (at_level d x env)
closed_term-apply nodes depths d k t env x h w =
    apply-lam (closed_term nodes depths (suc d) k t (enter d env)) x w h
    ∙ closed_term-follows nodes depths (suc d) k t (first x) (ready-first x h) (enter d env)
    ∙ ap (closed_term nodes depths (suc d) k t) (fun_ext (entered d x env))
