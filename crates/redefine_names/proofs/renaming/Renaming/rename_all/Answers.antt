use Rattle.redefine_names.proofs.RenamedLaws.{pushed}
use Rattle.redefine_names.proofs.renaming.Renaming.rename_all.Goals as goal

pub loop-rep-preserved : goal.loop-rep-preserved
loop-rep-preserved c =
    pushed c.args.self.now.names.items c.args.self.now.redirections.items c.loop-rep.made c.loop-rep.yielded c.in-Some.rep c.in_ok-renamed_as.field-0 c.push.new.self
    c.at_place-name.result c.at_place-redirection.result c.len.result c.len-in-loop-rep.result c.as_slice.result.now c.as_slice-in-loop-rep.result.now
    c.loop-rep.invariant c.in_ok-push.ensures.ok c.in_ok-renamed_as.ensures c.at_place-name.ensures c.at_place-redirection.ensures c.len.ensures c.len-in-loop-rep.ensures
    c.as_slice.ensures.value c.as_slice-in-loop-rep.ensures.value
