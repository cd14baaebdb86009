use Rattle.std.proofs.Common.{◌≡◌, ◌∙◌, ℕ, [], ◌∷◌, ◌++◌, ap, sym, subst}
use Rattle.level_terms.proofs.ReadLemmas.{valid-below}
use Rattle.suspend.specs.Keyed.{Keyed, KeysValid}
use Rattle.suspend.proofs.CallerLemmas.{after-joining, after-making}
use Rattle.store_rows.proofs.waking.Desk.suspend.Goals as goal

pub invariant_of-self : goal.invariant_of-self
invariant_of-self c = after-making ℕ c.self.inside.heap c.new_key.new.heap [] c.self.inside.store c.is_sound.ensures c.new_key.ensures.grows c.self.invariant

pub invariant_of-self-in_err-push : goal.invariant_of-self-in_err-push
invariant_of-self-in_err-push c = after-making ℕ c.self.inside.heap c.new_key.new.heap [] c.self.inside.store c.is_sound.ensures c.new_key.ensures.grows c.self.invariant

pub invariant_of-self-in_err-add : goal.invariant_of-self-in_err-add
invariant_of-self-in_err-add c =
    let made = after-making ℕ c.self.inside.heap c.new_key.new.heap [] c.self.inside.store c.is_sound.ensures c.new_key.ensures.grows c.self.invariant in
    subst (λ log. Keyed log c.new_key.new.heap) (sym c.in_err-add.ensures.err) made

pub invariant_of-self-2 : goal.invariant_of-self-2
invariant_of-self-2 c =
    let made = after-making ℕ c.self.inside.heap c.new_key.new.heap [] c.self.inside.store c.is_sound.ensures c.new_key.ensures.grows c.self.invariant in
    let valid = c.in_ok-key.ensures.valid in
    let one : c.push.new.self ≡ c.in_ok-key.key ∷ [] = c.in_ok-push.ensures.last ∙ ap (λ ks. ks ++ c.in_ok-key.key ∷ []) c.new-keys.ensures in
    let keys : KeysValid c.new_key.new.heap 0 c.push.new.self = subst (KeysValid c.new_key.new.heap 0) (sym one) ((valid-below c.new_key.new.heap c.in_ok-key.key.index 0 valid, valid), tt) in
    subst (λ log. Keyed log c.new_key.new.heap) (sym c.in_ok-add.ensures.ok.1)
    (after-joining ℕ c.new_key.new.heap c.self.inside.store (record { names = 0; context = 0; goal = c.in_ok-key.key; keys = c.push.new.self }) keys made)
