use Rattle.std.proofs.Common.{◌≡◌, refl, sym, ap, ◌∙◌, [], ◌∷◌, map}
use Rattle.std.proofs.lemmas.List.{length-map}
use Rattle.dance_list.specs.Dance.{linked, unlinked, nodes, undone}
use Rattle.dance_list.proofs.Dances.{same-front, then-last}
use Rattle.base_rows.proofs.relinking.drops_each_item_once.Goals as goal

pub unlink-requires : goal.unlink-requires
unlink-requires g c =
    let a = c.in_ok-_a._a in let b = c.in_ok-b.b in let d = c.in_ok-_c._c in
    record {
      linked = (
        (b, _, (a, _) ∷ [], (d, _) ∷ []),
        refl,
        then-last _ _ _ _ c.in_ok-_c.ensures.ok.1 (then-last _ _ _ _ c.in_ok-b.ensures.ok.1 (then-last _ _ _ _ c.in_ok-_a.ensures.ok.1 (ap linked c.new-list.ensures))),
      );
    }

pub relink-requires : goal.relink-requires
relink-requires g c =
    let left = c.unlink.ensures.left in let rest = c.truncate.ensures.rest in
    record {
      newest = (
        left.0,
        unlinked c.push_back-3.new.self,
        left.1,
        c.truncate.ensures.stack ∙ c.push_back-4.ensures.stack ∙ left.4,
        same-front (linked c.truncate.new.self) (linked c.unlink.new.self) rest.0 (c.in_ok-_d._d, _) rest.1 (sym rest.2 ∙ c.in_ok-_d.ensures.ok.1) ∙ left.3,
      );
    }

pub truncate-requires-2 : goal.truncate-requires-2
truncate-requires-2 g c =
    let left = c.unlink.ensures.left in let back = c.relink.ensures.back in let rest = c.truncate.ensures.rest in
    let stacks : left.0 ∷ unlinked c.push_back-3.new.self ≡ back.0 ∷ unlinked c.relink.new.self = sym left.4 ∙ sym c.push_back-4.ensures.stack ∙ sym c.truncate.ensures.stack ∙ back.2 in
    let same : back.0 ≡ left.0 = cc in
    let front = same-front (nodes c.truncate.new.self) (nodes c.unlink.new.self) (map (λ l. l.0) rest.0) c.in_ok-_d._d (length-map rest.0 (λ l. l.0) ∙ rest.1) (sym rest.3 ∙ c.in_ok-_d.ensures.ok.0) in
    record {
      last = (
        linked c.push_back-2.new.self,
        (c.in_ok-_c._c, _) ∷ [],
        nodes c.push_back-2.new.self,
        back.4 ∙ ap undone same ∙ sym left.2 ∙ c.in_ok-_c.ensures.ok.1,
        refl,
        c.relink.ensures.nodes ∙ front ∙ c.unlink.ensures.nodes ∙ c.in_ok-_c.ensures.ok.0,
      );
    }

pub unlink-requires-2 : goal.unlink-requires-2
unlink-requires-2 g c =
    let left = c.unlink.ensures.left in let back = c.relink.ensures.back in let rest = c.truncate-2.ensures.rest in
    let stacks : left.0 ∷ unlinked c.push_back-3.new.self ≡ back.0 ∷ unlinked c.relink.new.self = sym left.4 ∙ sym c.push_back-4.ensures.stack ∙ sym c.truncate.ensures.stack ∙ back.2 in
    let same : back.0 ≡ left.0 = cc in
    let three = back.4 ∙ ap undone same ∙ sym left.2 ∙ c.in_ok-_c.ensures.ok.1 in
    let a = c.in_ok-_a._a in let b = c.in_ok-b.b in
    record {
      linked = (
        (b, _, (a, _) ∷ [], []),
        refl,
        same-front (linked c.truncate-2.new.self) (linked c.push_back-2.new.self) rest.0 (c.in_ok-_c._c, _) rest.1 (sym rest.2 ∙ three) ∙ then-last _ _ _ _ c.in_ok-b.ensures.ok.1 (then-last _ _ _ _ c.in_ok-_a.ensures.ok.1 (ap linked c.new-list.ensures)),
      );
    }
