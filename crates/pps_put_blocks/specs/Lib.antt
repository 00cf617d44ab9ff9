pub mod SubpicIdsPut
