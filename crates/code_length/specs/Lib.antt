pub mod UeSize
