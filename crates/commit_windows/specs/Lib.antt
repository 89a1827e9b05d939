pub mod WindowCheck
