-- Steps of putting a term in the place of a level.
use Rattle.std.proofs.Common.{inl, inr, ◌⊎◌, ◌≡◌, ℕ, suc, ◌<◌, ◌-◌, ◌*◌, ◌++◌, List, [], ◌∷◌, length, refl, sym, ap, ◌∙◌, arith, subst, append_assoc, Some, slice_index}
use Rattle.level_terms.specs.declared.node.Node.TheVariants.{Lam as lam_node, App as app_node, Var as var_node}
use Rattle.level_terms.specs.declared.node.TermId.{TermId}
use Rattle.level_terms.specs.declared.node.VarId.{VarId}
use Rattle.level_terms.specs.Graph.{Graph, node_at, value_in}
use Rattle.level_terms.specs.Sound.{IsSound}
use Rattle.level_terms.specs.Valid.{IsValid}
use Rattle.level_terms.specs.Reading.{read}
use Rattle.level_terms.specs.Growth.{Grows}
use Rattle.level_terms.specs.Reached.{tree, tree_size}
use Rattle.level_terms.proofs.ValidLemmas.{valid_deeper}
use Rattle.level_terms.proofs.NodeLemmas.{value-valid}
use Rattle.ref_terms.specs.terms.Term.{Term}
use Rattle.beta_fragment.specs.declared.renaming.Task.{Task}
use Rattle.beta_fragment.specs.declared.renaming.Task.TheVariants.{Visit, Lam, App}
use Rattle.beta_fragment.specs.Firm.{IsPlain, IsPlainNode}
use Rattle.level_terms.specs.Values.{Value}
use Rattle.beta_fragment.specs.Moves.{putting}
use Rattle.beta_fragment.specs.inside.Work.{Leads, work_size, visits}
use Rattle.level_terms.proofs.ReadLemmas.{valid-below, read-built, grown-reads}
use Rattle.beta_fragment.proofs.EnterLemmas.{body-valid}
use Rattle.beta_fragment.proofs.MoveLemmas.{app-valid, node-before, assigned-before}
use Rattle.beta_fragment.proofs.VarLemmas.{var-known, depth-before}
use Rattle.beta_fragment.proofs.FirmLemmas.{entered-shift}
use Rattle.beta_fragment.proofs.WorkLemmas.{lam-size, visits-lead, moved-length}
use Rattle.beta_fragment.proofs.PutLemmas.{CanPut, IsReadyPut, put-lam, put-app, put-value}

-- a node that is valid at the level can be put there
pub can-put : (g : Graph) (t level : ℕ) → IsSound g → IsValid g t level → CanPut (read g t) level
can-put g t level s v = record {
  built = read-built g t;
  enters = λ e env l. entered-shift g t e env s (valid_deeper g t level e v l);
}

pub plain-before : (g h : Graph) (t s : ℕ) → IsSound g → Grows g h [] [] → IsValid g t s → IsPlainNode h t → IsPlainNode g t
plain-before g h t s sg gr v w env p = subst IsPlain (ap (λ r. r env) (grown-reads g h sg gr t (valid-below g t s v))) (w env p)

through-before : (g h : Graph) (t s : ℕ) (put : (ℕ → Term) → Term) → IsSound g → Grows g h [] [] → IsValid g t s → IsPlainNode h t ⊎ IsReadyPut put → IsPlainNode g t ⊎ IsReadyPut put
through-before g h t s put sg gr v (inl w) = inl (plain-before g h t s sg gr v w)
through-before g h t s put sg gr v (inr r) = inr r

module _ (put : (ℕ → Term) → Term) (level : ℕ) where
  pub put-lam-leads : (g : Graph) (t base source : ℕ) (node body : TermId) (b d : ℕ) (k : List Task) (xs : List Value) → IsSound g → CanPut put level → level < d → (node.index < length g.nodes → node_at g.nodes node.index ≡ Some (lam_node d body)) →
      Leads g (putting put level) t base source (Visit node b ∷ k) xs → Leads g (putting put level) t base source (Visit body b ∷ Lam (d - 1) ∷ k) xs
  put-lam-leads g t base source node body b d k xs sg can deep here h =
      let e = here (valid-below g node.index h.0 h.1) in (
        suc d,
        body-valid g sg node.index d body h.0 e h.1,
        omega (arith, deep),
        tt,
        λ y m. (xs, y, refl, λ x w. h.4 x (put-lam g put level node.index h.0 d body y x sg can e h.1 deep m w)),
      )

  pub put-app-leads : (g h : Graph) (t base source : ℕ) (node head : TermId) (args : List TermId) (b : ℕ) (k : List Task) (xs : List Value) → IsSound g → Grows g h [] [] → CanPut put level → IsPlainNode h head.index ⊎ IsReadyPut put → (node.index < length g.nodes → node_at g.nodes node.index ≡ Some (app_node head args)) →
      Leads g (putting put level) t base source (Visit node b ∷ k) xs → Leads g (putting put level) t base source ((Visit head b ∷ (visits b args ++ App (length args) ∷ [])) ++ k) xs
  put-app-leads g h t base source node head args b k xs sg gr can through here l =
      let e = here (valid-below g node.index l.0 l.1) in
      let parts = app-valid g node.index l.0 head args sg e l.1 in (
        l.0,
        parts.0,
        l.2,
        tt,
        λ y m.
            subst (λ js. Leads g (putting put level) t base source js (xs ++ y ∷ [])) (sym (append_assoc (visits b args) (App (length args) ∷ []) k))
            (visits-lead (putting put level) g t base source b l.0 (App (length args) ∷ k) l.2 tt args (xs ++ y ∷ []) parts.1
            (λ more w. (
              xs,
              y,
              more,
              append_assoc xs (y ∷ []) more,
              moved-length g (putting put level) b l.0 args more w,
              λ x a. l.4 x (put-app g put level node.index b l.0 head args y x more sg can e (through-before g h head.index l.0 put sg gr parts.0 through) m w a),
            ))),
      )

  pub put-value-leads : (g h : Graph) (t base source : ℕ) (node value : TermId) (v : VarId) (b : ℕ) (k : List Task) (xs : List Value) → IsSound g → Grows g h [] [] → node_at h.nodes node.index ≡ Some (var_node v) → value_in h.assigned v.index ≡ Some value.index → level < slice_index h.depths v.index →
      Leads g (putting put level) t base source (Visit node b ∷ k) xs → Leads g (putting put level) t base source (Visit value b ∷ k) xs
  put-value-leads g h t base source node value v b k xs sg gr e f deep l =
      let here = node-before g h gr node.index (var_node v) (valid-below g node.index l.0 l.1) e in
      let known = var-known g node.index v sg here in
      let has = sym (assigned-before g h gr v.index) ∙ f in
      let valid = value-valid g.nodes g.depths g.assigned sg.valid v.index value.index has in (
        slice_index g.depths v.index,
        valid,
        subst (λ d. level < d) (depth-before g h gr v.index known) deep,
        tt,
        λ x m. l.4 x (put-value g put level node.index l.0 value.index v x sg here has l.1 m),
      )

pub put-lam-falls : (g : Graph) (node body : TermId) (b d : ℕ) → IsSound g → node_at g.nodes node.index ≡ Some (lam_node d body) → work_size g (Visit body b ∷ Lam (d - 1) ∷ []) < 2 * tree_size (tree g node.index)
put-lam-falls g node body b d sg e = let less = lam-size g node.index d body sg e in omega (arith, less)
