pub mod Decimals
pub mod PairLaws
pub mod PutLaws
pub mod ReadLaws
