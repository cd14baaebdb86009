use Rattle.std.proofs.Common.{refl, sym, ap, ◌∙◌, [], ◌∷◌, ◌++◌}
use Rattle.dance_list.specs.Dance.{linked, unlinked}
use Rattle.dance_list.proofs.Dances.{same-front}
use Rattle.base_rows.proofs.relinking.unlinks_and_relinks.Goals as goal

pub unlink-requires : goal.unlink-requires
unlink-requires g c =
    let a = c.in_ok-_a._a in let b = c.in_ok-b.b in let d = c.in_ok-_c._c in
    record {
      linked = (
        (b, 98, (a, 97) ∷ [], (d, 99) ∷ []),
        refl,
        c.in_ok-_c.ensures.ok.1 ∙ ap (λ z. z ++ (d, 99) ∷ []) (c.in_ok-b.ensures.ok.1 ∙ ap (λ z. z ++ (b, 98) ∷ []) (c.in_ok-_a.ensures.ok.1 ∙ ap (λ z. linked z ++ (a, 97) ∷ []) c.new-list.ensures)),
      );
    }

pub relink-requires : goal.relink-requires
relink-requires g c =
    let left = c.unlink.ensures.left in let rest = c.truncate.ensures.rest in
    record {
      newest = (
        left.0,
        unlinked c.push_back-3.new.self,
        left.1,
        c.truncate.ensures.stack ∙ c.push_back-4.ensures.stack ∙ left.4,
        same-front (linked c.truncate.new.self) (linked c.unlink.new.self) rest.0 (c.in_ok-_d._d, 100) rest.1 (sym rest.2 ∙ c.in_ok-_d.ensures.ok.1) ∙ left.3,
      );
    }
