-- Laws of the two calls: their rules after each of their tests.
pub mod ReadTests
pub mod PointerRules
pub mod ReadRules
pub mod GivingLaws
