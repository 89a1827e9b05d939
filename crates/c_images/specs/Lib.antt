pub mod ImageCalls
pub mod LayoutNumber
pub mod FixedNumbers
pub mod ImagesHold
pub mod LoadedStores
