use Rattle.std.proofs.Common.{◌≡◌, ◌++◌, ◌∷◌, [], List, refl, sym, subst}
use Rattle.std.specs.List.{flat_map}
use Rattle.xs_names.proofs.GrownLaws.{Grown-trans}
use Rattle.representations.specs.Named.{type_name as names_in, AreIn}
use Rattle.representations.specs.declared.parts.TypeName.{TypeName}
use Rattle.representations.specs.Forms.{members_table}
use Rattle.representations.specs.Naming.{with_reference}
use Rattle.representations.specs.Lasting.{IsLasting}
use Rattle.representations.specs.Types.{type_name, type_names}
use Rattle.representations.proofs.LastingLaws.{lasting-more, in-more, table-more}
use Rattle.representations.proofs.types.type_names.Goals as goal

pub loop-name-preserved : goal.loop-name-preserved
loop-name-preserved c =
    let naming = c.args.naming.now in
    let t = c.loop-name.names in
    let u = c.type_name.new.names in
    let xs = c.args.referred.now in
    let i = c.loop-name.name-index in
    let x = c.name-item.result in
    let made = c.loop-name.found in
    let one = c.in_ok-type_name.field-0 in
    let put : c.push.new.self ≡ made ++ one ∷ [] = c.in_ok-push.ensures.ok in
    record {
      table = table-more (members_table naming) (with_reference naming) (λ y ys v. refl) xs i x t u _ c.loop-name-test.true c.name-item.is c.in_ok-type_name.ensures.table c.loop-name.invariant.table;
      of = subst (IsLasting u (λ later. type_names later naming _)) (sym put)
          (lasting-more (λ later. type_name later naming) t u xs i x made one c.loop-name-test.true c.name-item.is c.in_ok-type_name.ensures.grown c.loop-name.invariant.of c.in_ok-type_name.ensures.of);
      named = subst (λ (all : List TypeName). AreIn u (flat_map names_in all)) (sym put)
          (in-more names_in t u made one c.in_ok-type_name.ensures.grown c.loop-name.invariant.named c.in_ok-type_name.ensures.named);
      grown = Grown-trans _ t u c.loop-name.invariant.grown c.in_ok-type_name.ensures.grown;
    }
