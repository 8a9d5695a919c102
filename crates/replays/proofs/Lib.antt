mod BareRuns
mod AssociatedRuns
mod Unique
mod Same
mod SetUp
