use Rattle.std.proofs.Common.{◌-◌}
use Rattle.model_lists.proofs.Handling.{made-frame, made-shaped, made-fresh, made-list}
use Rattle.model_lists.proofs.lists.ModelLists.make.Goals as goal

pub returns-in_err-list-in-States-clause-others : goal.returns-in_err-list-in-States-clause-others
returns-in_err-list-in-States-clause-others g c =
    rw (← c.self.view_is) (made-frame c.self.inside.rows.items c.grow.new.rows.items c.self.inside.alls c.grow.ensures.grown (c.width-dead.result - 1) 0 c.index_mut-lists.result.now c.build_row.new.lists c.index_mut-lists.ensures.value c.in_ok-grow-in-States.ensures.there c.build_row.ensures.others)

pub invariant_of-self-in-States : goal.invariant_of-self-in-States
invariant_of-self-in-States g c =
    made-shaped c.self.inside.rows.items c.grow.new.rows.items c.self.inside.alls c.grow.ensures.grown (c.width-dead.result - 1) 0 c.index_mut-lists.result.now c.build_row.new.lists c.index_mut-lists.ensures.value c.in_ok-grow-in-States.ensures.there c.build_row.ensures.others.shape c.grow.ensures.shaped

pub returns-in_ok-list-in-States-clause-fresh : goal.returns-in_ok-list-in-States-clause-fresh
returns-in_ok-list-in-States-clause-fresh g c =
    rw (← c.self.view_is) (made-fresh c.self.inside.rows.items c.grow.new.rows.items c.self.inside.alls c.grow.ensures.grown (c.width-dead.result - 1) c.in_ok-list-in-States.list c.index_mut-lists.result.now c.build_row.new.lists c.index_mut-lists.ensures.value c.in_ok-grow-in-States.ensures.there c.in_ok-list-in-States.ensures.fresh)

pub returns-in_ok-list-in-States-clause-list : goal.returns-in_ok-list-in-States-clause-list
returns-in_ok-list-in-States-clause-list g c =
    made-list c.self.inside.rows.items c.grow.new.rows.items c.self.inside.alls c.grow.ensures.grown (c.width-dead.result - 1) c.in_ok-list-in-States.list c.index_mut-lists.result.now c.build_row.new.lists c.index_mut-lists.ensures.value c.in_ok-grow-in-States.ensures.there c.args.automaton.now c.args.symbols.now c.in_ok-list-in-States.ensures.list

pub returns-in_ok-list-in-States-clause-others : goal.returns-in_ok-list-in-States-clause-others
returns-in_ok-list-in-States-clause-others g c =
    rw (← c.self.view_is) (made-frame c.self.inside.rows.items c.grow.new.rows.items c.self.inside.alls c.grow.ensures.grown (c.width-dead.result - 1) 0 c.index_mut-lists.result.now c.build_row.new.lists c.index_mut-lists.ensures.value c.in_ok-grow-in-States.ensures.there c.build_row.ensures.others)
