use Rattle.std.proofs.Common.{arith, drop}
use Rattle.lp_lexer.proofs.Pieces.{blank_some, lexeme_some, fault_within}
use Rattle.lp_lexer.proofs.Lists.{is_rest, is_end, cut_len, room, end_fits, behind_blank, behind_lexeme}
use Rattle.lp_lexer.proofs.lex.token_list.Goals as goal

pub slice_bounds-byte_behind-end : goal.slice_bounds-byte_behind-end
slice_bounds-byte_behind-end c =
    cut_len c.args.text.now c.loop-list.index c.in-Blank.len
    (blank_some (drop c.loop-list.index c.args.text.now) c.in-Blank.len (is_rest c.args.text.now c.loop-list.index _ c.in-Blank.ensures)).1

pub byte_behind-at-requires : goal.byte_behind-at-requires
byte_behind-at-requires c =
    end_fits c.args.text.now c.loop-list.index c.loop-list.at c.loop-list.list.items c.loop-list.invariant c.in-Blank.len c.requires

pub overflow_add-index : goal.overflow_add-index
overflow_add-index c =
    let some = blank_some (drop c.loop-list.index c.args.text.now) c.in-Blank.len (is_rest c.args.text.now c.loop-list.index _ c.in-Blank.ensures) in
    omega (arith, room c.args.text.now c.loop-list.index c.loop-list.at c.loop-list.list.items c.loop-list.invariant c.in-Blank.len some.1)

pub loop-list-smaller-in-Blank : goal.loop-list-smaller-in-Blank
loop-list-smaller-in-Blank c =
    let some = blank_some (drop c.loop-list.index c.args.text.now) c.in-Blank.len (is_rest c.args.text.now c.loop-list.index _ c.in-Blank.ensures) in
    omega (arith, some, room c.args.text.now c.loop-list.index c.loop-list.at c.loop-list.list.items c.loop-list.invariant c.in-Blank.len some.1)

pub loop-list-preserved-in-Blank : goal.loop-list-preserved-in-Blank
loop-list-preserved-in-Blank c =
    behind_blank c.args.text.now c.loop-list.index c.loop-list.at c.loop-list.list.items c.loop-list.invariant c.in-Blank.len c.byte_behind-at.result
    (is_end c.args.text.now c.loop-list.index c.in-Blank.len c.loop-list.at _ c.byte_behind-at.ensures)
    (is_rest c.args.text.now c.loop-list.index _ c.in-Blank.ensures)

pub slice_bounds-byte_behind-end-in-Lexeme : goal.slice_bounds-byte_behind-end-in-Lexeme
slice_bounds-byte_behind-end-in-Lexeme c =
    cut_len c.args.text.now c.loop-list.index c.in-Lexeme.len
    (lexeme_some (drop c.loop-list.index c.args.text.now) c.in-Lexeme.kind c.in-Lexeme.len (is_rest c.args.text.now c.loop-list.index _ c.in-Lexeme.ensures)).1

pub byte_behind-end-requires : goal.byte_behind-end-requires
byte_behind-end-requires c =
    end_fits c.args.text.now c.loop-list.index c.loop-list.at c.loop-list.list.items c.loop-list.invariant c.in-Lexeme.len c.requires

pub overflow_add-index-in-Lexeme : goal.overflow_add-index-in-Lexeme
overflow_add-index-in-Lexeme c =
    let some = lexeme_some (drop c.loop-list.index c.args.text.now) c.in-Lexeme.kind c.in-Lexeme.len (is_rest c.args.text.now c.loop-list.index _ c.in-Lexeme.ensures) in
    omega (arith, room c.args.text.now c.loop-list.index c.loop-list.at c.loop-list.list.items c.loop-list.invariant c.in-Lexeme.len some.1)

pub loop-list-smaller : goal.loop-list-smaller
loop-list-smaller c =
    let some = lexeme_some (drop c.loop-list.index c.args.text.now) c.in-Lexeme.kind c.in-Lexeme.len (is_rest c.args.text.now c.loop-list.index _ c.in-Lexeme.ensures) in
    omega (arith, some, room c.args.text.now c.loop-list.index c.loop-list.at c.loop-list.list.items c.loop-list.invariant c.in-Lexeme.len some.1)

pub loop-list-preserved : goal.loop-list-preserved
loop-list-preserved c =
    rw c.in_ok-push-in-Lexeme.ensures.items
    (behind_lexeme c.args.text.now c.loop-list.index c.loop-list.at c.loop-list.list.items c.loop-list.invariant c.in-Lexeme.len c.byte_behind-end.result
    (is_end c.args.text.now c.loop-list.index c.in-Lexeme.len c.loop-list.at _ c.byte_behind-end.ensures) c.in-Lexeme.kind
    (is_rest c.args.text.now c.loop-list.index _ c.in-Lexeme.ensures))

pub slice_bounds-byte_behind-end-in-Fault : goal.slice_bounds-byte_behind-end-in-Fault
slice_bounds-byte_behind-end-in-Fault c =
    cut_len c.args.text.now c.loop-list.index c.in-Fault.len
    (fault_within (drop c.loop-list.index c.args.text.now) c.in-Fault.fault c.in-Fault.len (is_rest c.args.text.now c.loop-list.index _ c.in-Fault.ensures))

pub byte_behind-requires : goal.byte_behind-requires
byte_behind-requires c =
    end_fits c.args.text.now c.loop-list.index c.loop-list.at c.loop-list.list.items c.loop-list.invariant c.in-Fault.len c.requires
