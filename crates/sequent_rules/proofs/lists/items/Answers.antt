use Rattle.std.proofs.Common.{subst}
use Rattle.level_terms.proofs.GainLemmas.{gains-trans}
use Rattle.sequent_rules.specs.inside.Lists.{ListFits}
use Rattle.sequent_rules.proofs.ListingLemmas.{listing-starts, listing-goes, listing-smaller, listing-ends, listing-none}
use Rattle.sequent_rules.proofs.lists.items.Goals as goal

pub loop-form-init : goal.loop-form-init
loop-form-init c = listing-starts c.args.heap.now c.list_form.new.heap c.args.depth c.args.list c.new-items.result c.in_ok-form.form c.new-items.ensures c.in_ok-form.ensures.form c.list_form.ensures.gains

pub returns-in_err-push-clause-gains : goal.returns-in_err-push-clause-gains
returns-in_err-push-clause-gains c = c.loop-form.invariant.gains

pub list_form-requires-in-Item : goal.list_form-requires-in-Item
list_form-requires-in-Item c = (subst (ListFits c.loop-form.heap c.args.depth) c.in-Item.is c.loop-form.invariant.fits).1

pub returns-in_err-form-2-clause-gains : goal.returns-in_err-form-2-clause-gains
returns-in_err-form-2-clause-gains c = gains-trans c.args.heap.now c.loop-form.heap c.list_form-in-Item.new.heap c.loop-form.invariant.gains c.list_form-in-Item.ensures.gains

pub loop-form-smaller : goal.loop-form-smaller
loop-form-smaller c = listing-smaller c.loop-form.heap c.list_form-in-Item.new.heap c.args.depth c.loop-form.form c.in_ok-form-2.form c.in-Item.item c.in-Item.rest c.in-Item.is c.in_ok-form-2.ensures.form

pub loop-form-preserved : goal.loop-form-preserved
loop-form-preserved c =
    listing-goes c.args.heap.now c.loop-form.heap c.list_form-in-Item.new.heap c.args.depth c.args.list c.loop-form.items c.push.new.self c.loop-form.form c.in_ok-form-2.form c.in-Item.item c.in-Item.rest c.is_sound-in-Item.ensures c.loop-form.invariant c.in-Item.is
    c.in_ok-push.ensures.last c.in_ok-form-2.ensures.form c.list_form-in-Item.ensures.gains

pub returns-in-End : goal.returns-in-End
returns-in-End c = record {
  items = listing-ends c.args.heap.now c.loop-form.heap c.args.depth c.args.list c.loop-form.items c.loop-form.form c.loop-form.invariant c.in-End.is;
  valid = c.loop-form.invariant.items_valid;
  gains = c.loop-form.invariant.gains;
}

pub returns-in-Other : goal.returns-in-Other
returns-in-Other c = record {
  items = listing-none c.args.heap.now c.loop-form.heap c.args.depth c.args.list c.loop-form.items c.loop-form.form c.loop-form.invariant c.in-Other.is;
  valid = tt;
  gains = c.loop-form.invariant.gains;
}
