pub mod Apply
pub mod SaveUndo
