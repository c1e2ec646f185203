use Rattle.std.proofs.Common.{◌≡◌, true, Option, sym, subst}
use Rattle.std.specs.Prelude.{IfSome}
use Rattle.attr_uses.specs.declared.entry.Entry.{Entry}
use Rattle.attr_uses.specs.Maps.{ArePut}
use Rattle.attr_uses.proofs.NeededLaws.{nothing-put, one-put}
use Rattle.attr_uses.proofs.read.put_entry.Goals as goal

pub returns-in-None : goal.returns-in-None
returns-in-None c = record {
  put = subst (λ (o : Option Entry). ArePut (λ key. o) 0 c.args.name c.args.needed.now.items c.args.needed.now.items) (sym c.in-None.is) (nothing-put c.args.name c.args.needed.now.items);
}

pub returns-in_ok-push-in-Some : goal.returns-in_ok-push-in-Some
returns-in_ok-push-in-Some c =
    let old = c.args.needed.now.items in
    let new = c.push.new.self.items in
    record {
      put = subst (λ (o : Option Entry). ArePut (λ key. o) 0 c.args.name old new) (sym c.in-Some.is)
          (one-put c.in-Some.entry c.args.name old new (subst (λ (o : Option Entry). IfSome o (λ entry. entry.needed ≡ true)) c.in-Some.is c.requires.needed) c.in_ok-push-in-Some.ensures.items);
    }
