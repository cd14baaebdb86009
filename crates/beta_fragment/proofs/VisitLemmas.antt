-- Visits that are pushed from the last one on.
use Rattle.std.proofs.Common.{◌≡◌, ℕ, zero, suc, ◌<◌, ◌++◌, List, [], ◌∷◌, length, reverse, drop, get_or, refl, sym, ap, ◌∙◌, arith, append_assoc}
use Rattle.std.proofs.lemmas.List.{reverse-append, reverse-reverse}
use Rattle.level_terms.specs.declared.node.TermId.{TermId}
use Rattle.beta_fragment.specs.declared.renaming.Task.{Task}
use Rattle.beta_fragment.specs.declared.renaming.Task.TheVariants.{Visit, App}
use Rattle.beta_fragment.specs.inside.Work.{visits}

pub drop_all : (b : ℕ) (ts : List TermId) → drop (length ts) (visits b ts) ≡ []
drop_all b [] = refl
drop_all b (t ∷ ts) = drop_all b ts

pub drop_one : (b : ℕ) (ts : List TermId) (i : ℕ) (d : TermId) → i < length ts → drop i (visits b ts) ≡ Visit (get_or ts i d) b ∷ drop (suc i) (visits b ts)
drop_one b [] i d h = absurd (omega arith)
drop_one b (t ∷ ts) zero d h = refl
drop_one b (t ∷ ts) (suc i) d h = drop_one b ts i d (omega (arith, h))

pub push_step : (old work new rest : List Task) (p : Task) (all : List Task) → work ≡ old ++ reverse rest → new ≡ work ++ p ∷ [] → all ≡ p ∷ rest → new ≡ old ++ reverse all
push_step old work new rest p all h e k =
    e ∙ ap (λ (ws : List Task). ws ++ p ∷ []) h ∙ append_assoc old (reverse rest) (p ∷ [])
    ∙ ap (λ (ws : List Task). old ++ ws) (sym (reverse-append (p ∷ []) rest) ∙ ap reverse (sym k))

-- what a visit of an application leaves to do
pub pushed-app : (b : ℕ) (head : TermId) (args : List TermId) (old one two new : List Task) → one ≡ old ++ App (length args) ∷ [] → two ≡ one ++ reverse (visits b args) → new ≡ two ++ Visit head b ∷ [] →
    new ≡ old ++ (App (length args) ∷ (reverse (visits b args) ++ Visit head b ∷ []))
pushed-app b head args old one two new e f h =
    h ∙ ap (λ (ws : List Task). ws ++ Visit head b ∷ []) (f ∙ ap (λ (ws : List Task). ws ++ reverse (visits b args)) e)
    ∙ append_assoc (old ++ App (length args) ∷ []) (reverse (visits b args)) (Visit head b ∷ [])
    ∙ append_assoc old (App (length args) ∷ []) (reverse (visits b args) ++ Visit head b ∷ [])

pub reversed-app : (b : ℕ) (head : TermId) (args : List TermId) → reverse (App (length args) ∷ (reverse (visits b args) ++ Visit head b ∷ [])) ≡ Visit head b ∷ (visits b args ++ App (length args) ∷ [])
reversed-app b head args =
    reverse-append (App (length args) ∷ []) (reverse (visits b args) ++ Visit head b ∷ [])
    ∙ ap (λ (ws : List Task). ws ++ App (length args) ∷ []) (reverse-append (reverse (visits b args)) (Visit head b ∷ []) ∙ ap (λ (ws : List Task). Visit head b ∷ ws) (reverse-reverse (visits b args)))
