use Rattle.item_listing.proofs.Reading.{fault-fed, fault-finished}
use Rattle.item_listing.proofs.listing.faults_stay.Goals as goal

pub returns-clause-fed : goal.returns-clause-fed
returns-clause-fed c = fault-fed

pub returns-clause-finished : goal.returns-clause-finished
returns-clause-finished c = fault-finished
