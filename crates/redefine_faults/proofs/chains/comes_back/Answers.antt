use Rattle.std.proofs.Common.{true, refl, sym, ◌∙◌, true≢false}
use Rattle.redefine_originals.specs.inside.Entries.{version_entry}
use Rattle.redefine_faults.specs.Redefinitions.{GoesTo}
use Rattle.redefine_faults.proofs.ChainLaws.{chain-ended, chain-closed, chain-back, chain-more, chain-read}
use Rattle.redefine_faults.proofs.chains.comes_back.Goals as goal

pub returns-then-is_same_version : goal.returns-then-is_same_version
returns-then-is_same_version c =
    let v = version_entry c.in-Some.original in
    let g : GoesTo c.args.originals.now.sources.available.now (version_entry c.loop-marks.last) v = (rw c.in-Some.is at c.in_ok-original.ensures).0 in
    (λ e. chain-back c.args.originals.now.sources.available.now (version_entry c.args.start) c.loop-marks.marks.items (version_entry c.loop-marks.last) c.loop-marks.invariant v g (sym c.is_same_version.ensures ∙ c.if-is_same_version.true), λ b. refl)

pub returns-then-index : goal.returns-then-index
returns-then-index c =
    let v = version_entry c.in-Some.original in
    let g : GoesTo c.args.originals.now.sources.available.now (version_entry c.loop-marks.last) v = (rw c.in-Some.is at c.in_ok-original.ensures).0 in (
      λ e. absurd (true≢false (sym e)),
      λ b. absurd (chain-closed c.args.originals.now.sources.available.now (version_entry c.args.start) c.loop-marks.marks.items (version_entry c.loop-marks.last) c.loop-marks.invariant v g
          (chain-read c.args.originals.now.sources.available.now (version_entry c.args.start) c.loop-marks.marks.items (version_entry c.loop-marks.last) c.loop-marks.invariant v g c.index.result.now true c.index.ensures c.if-index.true) b),
    )

pub loop-marks-preserved : goal.loop-marks-preserved
loop-marks-preserved c =
    let v = version_entry c.in-Some.original in
    let g : GoesTo c.args.originals.now.sources.available.now (version_entry c.loop-marks.last) v = (rw c.in-Some.is at c.in_ok-original.ensures).0 in
    chain-more c.args.originals.now.sources.available.now (version_entry c.args.start) c.loop-marks.marks.items (version_entry c.loop-marks.last) c.loop-marks.invariant v g (sym c.is_same_version.ensures ∙ c.if-is_same_version.false)

pub returns : goal.returns
returns c = (
  λ e. absurd (true≢false (sym e)),
  λ b. absurd (chain-ended c.args.originals.now.sources.available.now (version_entry c.args.start) c.loop-marks.marks.items (version_entry c.loop-marks.last) c.loop-marks.invariant (rw c.in_default.is at c.in_ok-original.ensures) b),
)
