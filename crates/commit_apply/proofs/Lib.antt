pub mod Settings
pub mod WriteLaws
pub mod LengthLaws
pub mod OffsetLaws
pub mod Landed
pub mod SaveUndoLaws
