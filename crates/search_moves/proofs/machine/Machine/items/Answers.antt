use Rattle.std.proofs.Common.{subst}
use Rattle.search_moves.specs.Waking.{ListFits}
use Rattle.search_moves.proofs.ListingLemmas.{stays-trans, listing-starts, listing-goes, listing-smaller, listing-ends, listing-none}
use Rattle.search_moves.proofs.machine.Machine.items.Goals as goal

pub loop-form-init : goal.loop-form-init
loop-form-init c = listing-starts c.args.self.now c.list_form.new.self c.args.goal.now c.args.list c.no_terms-items.result c.in_ok-form.form c.no_terms-items.ensures c.in_ok-form.ensures.form c.list_form.ensures.stays

pub returns-in_err-push-clause-stays : goal.returns-in_err-push-clause-stays
returns-in_err-push-clause-stays c = c.loop-form.invariant.stays

pub list_form-requires-in-Item-clause-first : goal.list_form-requires-in-Item-clause-first
list_form-requires-in-Item-clause-first c = c.loop-form.invariant.stays.first

pub list_form-requires-in-Item-clause-valid : goal.list_form-requires-in-Item-clause-valid
list_form-requires-in-Item-clause-valid c = (subst (ListFits c.loop-form.self.world.heap c.args.goal.now.depth) c.in-Item.is c.loop-form.invariant.fits).1

pub returns-in_err-form-2-clause-stays : goal.returns-in_err-form-2-clause-stays
returns-in_err-form-2-clause-stays c = stays-trans c.args.self.now c.loop-form.self c.list_form-in-Item.new.self c.args.goal.now c.loop-form.invariant.stays c.list_form-in-Item.ensures.stays

pub loop-form-smaller : goal.loop-form-smaller
loop-form-smaller c = listing-smaller c.loop-form.self c.list_form-in-Item.new.self c.args.goal.now c.loop-form.form c.in_ok-form-2.form c.in-Item.item c.in-Item.rest c.in-Item.is c.in_ok-form-2.ensures.form

pub loop-form-preserved : goal.loop-form-preserved
loop-form-preserved c =
    listing-goes c.args.self.now c.loop-form.self c.list_form-in-Item.new.self c.args.goal.now c.args.list c.loop-form.items c.push.new.self c.loop-form.form c.in_ok-form-2.form c.in-Item.item c.in-Item.rest c.loop-form.invariant c.in-Item.is
    c.in_ok-push.ensures.last c.in_ok-form-2.ensures.form c.list_form-in-Item.ensures.stays

pub returns-in-End : goal.returns-in-End
returns-in-End c = record {
  items = listing-ends c.args.self.now c.loop-form.self c.args.goal.now c.args.list c.loop-form.items c.loop-form.form c.loop-form.invariant c.in-End.is;
  items_valid = c.loop-form.invariant.items_valid;
  stays = c.loop-form.invariant.stays;
}

pub returns-in-Other : goal.returns-in-Other
returns-in-Other c = record {
  items = listing-none c.args.self.now c.loop-form.self c.args.goal.now c.args.list c.loop-form.items c.loop-form.form c.loop-form.invariant c.in-Other.is;
  items_valid = tt;
  stays = c.loop-form.invariant.stays;
}
