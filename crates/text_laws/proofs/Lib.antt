-- What reading and writing expressions mean together: a tree is accepted exactly if some text gives it, and reading
-- what was written gives the tree back. In the order of the argument; what is to be cited ends each part.
--   Renumbering, BracketDepths, Nesting   tokens up to their places, and how deep their brackets open
--   SortedTrees, GivenAccepted            what a text gives is accepted; ReadTrees: so is what was read of a text
--   ShownTexts                            what a text that is refused shows
--   Sorting, TokenLimits, WrittenNames, WrittenGives   an accepted tree is given by its written text
--   SomeNames, Exactness                  so a tree is accepted exactly if some text gives it
--   AnyRules                              what a text gives under some rules it gives under document 01's
--   AcceptedStable, NeededPairs, RoundTrips   what was written is read back, at the limits too; no pair is needless
pub mod Renumbering
pub mod BracketDepths
pub mod Nesting
pub mod SortedTrees
pub mod GivenAccepted
pub mod ReadTrees
pub mod ShownTexts
pub mod Sorting
pub mod TokenLimits
pub mod WrittenNames
pub mod WrittenGives
pub mod SomeNames
pub mod Exactness
pub mod AnyRules
pub mod AcceptedStable
pub mod NeededPairs
pub mod RoundTrips
