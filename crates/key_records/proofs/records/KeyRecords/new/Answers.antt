use Rattle.key_records.proofs.TargetLaws.{records-of-none}
use Rattle.key_records.proofs.records.KeyRecords.new.Goals as goal

pub returns : goal.returns
returns c = λ t refs.
    records-of-none t refs (record { alloc = c.args.alloc; referred = c.in_ok-referred.referred; others = c.in_ok-others.others; faults = c.new-faults.result })
    c.in_ok-referred.ensures c.in_ok-others.ensures c.new-faults.ensures
